-- The plain collection that a collection of each kind is.
use Rattle.std.specs.Prelude.{List}
use Rattle.imm_base.specs.declared.val.Val.{Val}
use Rattle.imm_base.specs.declared.comparers.ValEq.{ValEq}
use Rattle.imm_base.specs.declared.comparers.ValOrder.{ValOrder}
use Rattle.imm_base.specs.Maps.{Entries}
use Rattle.hash_bucket.specs.Hashed.{Hashed}
use Rattle.imm_dictionary.specs.Mapped.{Mapped}
use Rattle.sorted_maps.specs.Ordered as maps
use Rattle.sorted_sets.specs.Ordered as sets
use Rattle.plain_model.specs.declared.plain.Kind.{Kind}
use Rattle.plain_model.specs.declared.plain.Kind.TheVariants as kinds
use Rattle.plain_model.specs.declared.plain.Values.TheVariants as values
use Rattle.plain_model.specs.declared.plain.Plain.{Plain}

-- of a kind whose contents are a list
abbrev pub kind_of : Kind → List Val → Plain
kind_of kind xs = record { kind = kind; values = values.List xs }

-- of a kind whose contents are pairs
abbrev pub kind_of_pairs : Kind → Entries Val Val → Plain
kind_of_pairs kind ps = record { kind = kind; values = values.Pairs ps }

abbrev pub list_of : List Val → Plain
list_of = kind_of kinds.List

abbrev pub array_of : List Val → Plain
array_of = kind_of kinds.Array

-- the top first
abbrev pub stack_of : List Val → Plain
stack_of = kind_of kinds.Stack

-- the front first
abbrev pub queue_of : List Val → Plain
queue_of = kind_of kinds.Queue

abbrev pub sorted_set_of : sets.Ordered Val ValOrder → Plain
sorted_set_of set = kind_of (kinds.SSet set.order) set.items

abbrev pub sorted_map_of : maps.Ordered Val Val ValOrder → Plain
sorted_map_of map = kind_of_pairs (kinds.SMap map.order) map.pairs

abbrev pub hash_set_of : Hashed Val ValEq → Plain
hash_set_of set = kind_of (kinds.HSet set.eq) set.items

abbrev pub dict_of : Mapped Val Val ValEq → Plain
dict_of map = kind_of_pairs (kinds.Dict map.eq) map.pairs
