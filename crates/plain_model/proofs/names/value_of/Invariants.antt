use Rattle.std.proofs.Common.{◌≡◌, drop}
use Rattle.plain_model.specs.Names.{get}
use Rattle.plain_model.proofs.names.value_of.Given as goal

abbrev pub invariant-loop-binding : goal.invariant-loop-binding
invariant-loop-binding g l = get (drop l.binding-index l.bindings) l.name ≡ get l.bindings l.name
