use Rattle.std.proofs.Common.{rules, arith, ◌*◌, ℕ, ◌+◌, ap, sym, ◌∙◌, Some, ◌∷◌}
use Rattle.atomic_table.specs.Table.{rest}
use Rattle.stack_pool.proofs.Turning as step
use Rattle.stack_pool.proofs.steps.lift.Goals as goal

pub swap-requires : goal.swap-requires
swap-requires g c = let placed = c.requires.placed in let wide = placed.0 in let lt = placed.1 in let long = placed.2 in
    (search rules, lt, step.holds _ _ _ _ _ (omega arith) (omega arith) placed.3 _ c.requires.home.0 (ap (λ (n : ℕ). n * 2 + 1) c.requires.home.1))

pub exchange-requires : goal.exchange-requires
exchange-requires g c = let t = c.swap.ensures.2 in (search rules, (Some t.0, t.2 ∙ ap (λ cs. (c.args.place, Some t.0) ∷ rest cs) (sym t.2)))
