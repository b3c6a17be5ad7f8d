use Rattle.std.proofs.Common.{rules, arith, ◌≡◌, ℕ, ◌*◌, ap, sym, ◌∙◌}
use Rattle.stack_pool.specs.declared.view.Keep.TheVariants.{Home, Lent}
use Rattle.stack_pool.specs.declared.view.Kind.TheVariants.{Probe}
use Rattle.stack_pool.specs.declared.view.View.{View}
use Rattle.stack_pool.specs.Views.{kept_at, word_of}
use Rattle.stack_pool.proofs.Chains.{held_then, same_counts}
use Rattle.stack_pool.proofs.calls.hold_on.Goals as goal

pub returns-in-Ok-clause-answer : goal.returns-in-Ok-clause-answer
returns-in-Ok-clause-answer g c = let V : Type 0 = View g.row.S.Denot in let p : ℕ = c.args.owner.place in let n : ℕ = c.args.owner.number in
    let got = c.in-Ok.ensures.answer in let near = got.1 in let seated = c.requires.seated in let wide = seated.1 in let long = seated.2 in
    let kept : kept_at c.args.chair.now.me.0.kept p ≡ Home n c.lift-content.result = ap (λ (u : V). kept_at u.kept p) (sym got.4) ∙ c.lift-content.ensures.content in
    let word : c.in-Ok.field-0 ≡ n * 2 = got.3 ∙ ap word_of kept in
    (got.0, search rules, near, (kept, held_then _ _ _ _ p n _ (λ m. Lent m) Probe (omega arith) got.4 word c.lift-content.ensures.view c.lay.ensures.view))

pub returns-in-Ok-clause-counts : goal.returns-in-Ok-clause-counts
returns-in-Ok-clause-counts g c = let got = c.in-Ok.ensures.answer in
    same_counts _ _ c.args.owner.place (Lent c.args.owner.number) _ (λ z. got.0 (sym got.2 ∙ z)) got.0 (returns-in-Ok-clause-answer g c).3.1
