use Rattle.std.proofs.Common.{◌≡◌, replicate}
use Rattle.stack_pool.proofs.shared.SharedPool.make.Given as goal

abbrev pub invariant-loop-place : goal.invariant-loop-place
invariant-loop-place g l = l.words.items ≡ replicate l.place 0
