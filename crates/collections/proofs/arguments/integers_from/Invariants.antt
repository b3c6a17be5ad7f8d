use Rattle.std.proofs.Common.{◌≡◌}
use Rattle.std.specs.Prelude.{map}
use Rattle.imm_base.specs.declared.val.Val.TheVariants.{Int}
use Rattle.plain_model.specs.Plain.{integers_from}
use Rattle.collections.proofs.arguments.integers_from.Given as goal

abbrev pub invariant-loop-place : goal.invariant-loop-place
invariant-loop-place l = l.integers.items ≡ map Int (integers_from l.first l.place)
