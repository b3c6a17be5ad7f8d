-- The builder of a plain collection that each form of a builder is.
use Rattle.plain_model.specs.declared.plain.Plain.{Plain}
use Rattle.plain_model.specs.Builders.{Built}
use Rattle.collections.specs.Kinds.{list_of, sorted_set_of, sorted_map_of, hash_set_of, dict_of}
use Rattle.collection_builders.specs.declared.builder.BuilderRepr.{BuilderRepr}
use Rattle.collection_builders.specs.declared.builder.BuilderRepr.TheVariants as reprs
use Rattle.collection_builders.specs.Builders.{built_map}

abbrev pub built_of : BuilderRepr → Built Plain
built_of (reprs.List list) = built_map list_of list
built_of (reprs.SSet set) = built_map sorted_set_of set
built_of (reprs.SMap map) = built_map sorted_map_of map
built_of (reprs.HSet set) = built_map hash_set_of set
built_of (reprs.Dict map) = built_map dict_of map
