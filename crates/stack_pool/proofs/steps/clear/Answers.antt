use Rattle.std.proofs.Common.{rules, arith}
use Rattle.stack_pool.proofs.Turning as step
use Rattle.stack_pool.proofs.steps.clear.Goals as goal

pub swap-requires : goal.swap-requires
swap-requires g c = let placed = c.requires.placed in let wide = placed.0 in let lt = placed.1 in let long = placed.2 in
    (search rules, lt, step.clears _ _ _ _ _ (omega arith) (omega arith) placed.3 _ c.requires.out.0 c.requires.out.1)
