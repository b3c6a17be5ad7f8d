-- Frozen collections: what each form of one holds, and the questions that it answers.
use Rattle.std.specs.Prelude.{Bool, true, false}
use Rattle.plain_model.specs.declared.plain.Kind.{Kind}
use Rattle.plain_model.specs.declared.plain.Kind.TheVariants as kinds
use Rattle.plain_model.specs.declared.commands.Query.{Query}
use Rattle.plain_model.specs.declared.commands.Query.TheVariants as queries
use Rattle.plain_model.specs.Locals.{Frozen, frozen_set, frozen_map, frozen_contents}
use Rattle.collections.specs.declared.frozen.FrozenRepr.{FrozenRepr}
use Rattle.collections.specs.declared.frozen.FrozenRepr.TheVariants as reprs

abbrev pub frozen_of : FrozenRepr → Frozen
frozen_of (reprs.Set set) = frozen_set set.eq set.items
frozen_of (reprs.Map map) = frozen_map map.eq map.pairs

abbrev pub frozen_set_answers : Query → Bool
frozen_set_answers queries.Count = true
frozen_set_answers (queries.Contains v) = true
frozen_set_answers (queries.Actual v) = true
frozen_set_answers queries.Strategy = true
frozen_set_answers _ = false

abbrev pub frozen_map_answers : Query → Bool
frozen_map_answers queries.Count = true
frozen_map_answers (queries.Lookup k) = true
frozen_map_answers (queries.KeyOf k) = true
frozen_map_answers queries.Keys = true
frozen_map_answers queries.Values = true
frozen_map_answers queries.Strategy = true
frozen_map_answers _ = false

-- frozen collections of the kind answer the question: a frozen set counts as a hash set, and a frozen map
-- as a dictionary
abbrev pub frozen_answers : Kind → Query → Bool
frozen_answers (kinds.HSet eq) query = frozen_set_answers query
frozen_answers (kinds.Dict eq) query = frozen_map_answers query
frozen_answers _ query = false

-- so does this one
abbrev pub frozen_has_answer : Frozen → Query → Bool
frozen_has_answer f query = frozen_answers (frozen_contents f).kind query
