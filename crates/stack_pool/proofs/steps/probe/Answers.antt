use Rattle.std.proofs.Common.{rules, arith}
use Rattle.stack_pool.proofs.Turning as step
use Rattle.stack_pool.proofs.steps.probe.Goals as goal

pub load-requires : goal.load-requires
load-requires g c = let placed = c.requires.placed in let wide = placed.0 in let lt = placed.1 in
    (search rules, lt, step.probes _ _ _ _ _ (omega arith))
