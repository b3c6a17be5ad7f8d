use Rattle.std.proofs.Common.{rules, arith, ◌≡◌, ◌<◌, ◌*◌, ℕ, ap, sym, ◌∙◌, subst, length, Some, ◌∷◌}
use Rattle.atomic_table.specs.Table.{rest}
use Rattle.stack_pool.specs.declared.view.View.{View}
use Rattle.stack_pool.specs.Views.{IsOut, kept_at, number_at}
use Rattle.stack_pool.proofs.Turning as step
use Rattle.stack_pool.proofs.steps.put_home.Goals as goal

pub swap-requires : goal.swap-requires
swap-requires g c = let V : Type 0 = View g.row.S.Denot in let placed = c.requires.placed in let wide = placed.0 in let lt = placed.1 in let long = placed.2 in
    let out = c.requires.out in let now = c.exchange.ensures.3 in let same : c.exchange.new.seat.me.0 ≡ c.args.chair.now.me.0 = ap (λ m. m.0) now in
    let room : length c.exchange.new.seat.me.0.kept ≡ length c.args.chair.now.me.0.kept = ap (λ (u : V). length u.kept) same in (
      search rules,
      lt,
      step.backs _ _ _ _ _ (omega arith) (omega arith) (subst (λ (u : V). u.number < 16) (sym same) placed.3) _ c.args.content (rest c.args.chair.now.me.1)
          (subst (λ (u : V). IsOut (kept_at u.kept c.args.place)) (sym same) out.0) (ap (λ m. m.1) now) (ap (λ (n : ℕ). n * 2) (out.1 ∙ ap (λ (u : V). number_at u c.args.place) (sym same))),
    )

pub returns-clause-seat : goal.returns-clause-seat
returns-clause-seat g c = let has = ap (λ m. m.1) c.exchange.ensures.3 in
    let t = c.swap.ensures.2 c.args.content (has ∙ ap (λ cs. (c.args.place, Some c.args.content) ∷ rest cs) (sym has)) in
    (search rules, search rules, t.0 ∙ ap rest has)
