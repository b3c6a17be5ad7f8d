-- The last turn is all that the others are not.
use Rattle.std.specs.Prelude.{◌≡◌, ◌≤◌, ℕ, zero, suc, codes}
use Rattle.std.proofs.Common.{refl, arith}
use Rattle.imm_base.specs.declared.val.Val.{Val}
use Rattle.plain_model.specs.declared.commands.PlainOp.TheVariants as ops
use Rattle.plain_model.specs.declared.commands.Command.TheVariants as commands
use Rattle.plain_model.specs.Generator.{in_turn}

pub last_in_turn : (k : ℕ) (v : Val) → 3 ≤ k → in_turn k v ≡ commands.Update (codes "L") (ops.Add v)
last_in_turn zero v h = absurd (omega arith)
last_in_turn (suc zero) v h = absurd (omega arith)
last_in_turn (suc (suc zero)) v h = absurd (omega arith)
last_in_turn (suc (suc (suc k))) v h = refl
