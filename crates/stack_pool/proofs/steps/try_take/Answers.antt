use Rattle.std.proofs.Common.{rules, arith, ◌*◌, ℕ, ◌+◌, ap}
use Rattle.stack_pool.proofs.Turning as step
use Rattle.stack_pool.proofs.steps.try_take.Goals as goal

pub compare_exchange-requires : goal.compare_exchange-requires
compare_exchange-requires g c = let placed = c.requires.placed in let wide = placed.0 in let lt = placed.1 in let long = placed.2 in
    (search rules, lt, step.takes_free _ _ _ _ _ (omega arith) (omega arith) placed.3 _ c.requires.number.1 (ap (λ (n : ℕ). n * 2 + 1) c.requires.number.0))
