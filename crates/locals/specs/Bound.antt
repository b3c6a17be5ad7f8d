-- What names are bound to in a run, as the model has it.
use Rattle.std.specs.Prelude.{List, map, Bool, true, Option, Some, None}
use Rattle.plain_model.specs.declared.commands.Query.{Query}
use Rattle.plain_model.specs.Names.{Name, Bindings}
use Rattle.plain_model.specs.Locals as model
use Rattle.collections.specs.Frozen.{frozen_has_answer}
use Rattle.locals.specs.declared.bound.Bound.{Bound}
use Rattle.locals.specs.declared.bound.Bound.TheVariants as bounds

abbrev pub bound_of : Bound → model.Bound
bound_of (bounds.Collection p) = model.collection p
bound_of (bounds.Frozen f) = model.frozen f

abbrev pub binding_of : Name × Bound → Name × model.Bound
binding_of b = (b.0, bound_of b.1)

-- the names of a part that has no walks
abbrev pub locals_of : Bindings Bound → model.Locals
locals_of names = record model.no_locals { names = map binding_of names }

-- what a name is bound to answers the question: a frozen collection answers fewer than its kind does
abbrev pub has_answer : Query → model.Bound → Bool
has_answer query (model.frozen f) = frozen_has_answer f query
has_answer query _ = true

-- so it is where the name is bound
abbrev pub can_answer : Query → Option model.Bound → Bool
can_answer query None = true
can_answer query (Some b) = has_answer query b
