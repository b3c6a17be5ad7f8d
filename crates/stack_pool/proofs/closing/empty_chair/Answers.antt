use Rattle.std.proofs.Common.{arith, ℕ, sym, ap, ◌∙◌, subst}
use mathlib.Core.Logic.{dite}
use native.Mathlib.Decide.{ℕ_discrete}
use Rattle.stack_pool.specs.declared.view.Keep.{Keep}
use Rattle.stack_pool.specs.Views.{number_of, number_at, IsHome}
use Rattle.stack_pool.proofs.Chains.{kept_near}
use Rattle.stack_pool.proofs.closing.empty_chair.Goals as goal

pub loop-place-preserved : goal.loop-place-preserved
loop-place-preserved g c = let inv = c.loop-place.invariant in let p : ℕ = c.loop-place.place in let test = c.loop-place-test.true in let K : Type 0 = Keep g.row.S.Denot in
    let seat = c.empty_place.ensures.seat in let same = c.empty_place.ensures.same in record {
      near = omega arith;
      table = seat.0 ∙ inv.table;
      id = seat.1 ∙ inv.id;
      hand = seat.2 ∙ inv.hand;
      long = same.0 ∙ inv.long;
      number = same.1 ∙ inv.number;
      rest = λ q ne. dite (ℕ_discrete q p)
          (λ is. absurd (ne (ap (λ (n : ℕ). number_at c.empty_place.new.chair.me.0 n) is ∙ c.empty_place.ensures.gone)))
          (λ other. let e = c.empty_place.ensures.others q other in subst (λ (k : K). IsHome k) (sym e) (inv.rest q (λ z. ne (ap number_of e ∙ z))));
      empty = λ q l. dite (ℕ_discrete q p)
          (λ is. ap (λ (n : ℕ). number_at c.empty_place.new.chair.me.0 n) is ∙ c.empty_place.ensures.gone)
          (λ other. ap number_of (c.empty_place.ensures.others q other) ∙ inv.empty q (omega arith));
    }

pub returns-clause-empty : goal.returns-clause-empty
returns-clause-empty g c = λ q. let inv = c.loop-place.invariant in let seated = c.requires.seated in let long = inv.long in let a = seated.1 in let b = seated.2 in let done = c.loop-place-test.false in let le = inv.near in
    dite (ℕ_discrete (number_at c.loop-place.chair.me.0 q) 0) (λ z. z)
    (λ ne. let near = kept_near c.loop-place.chair.me.0.kept q ne in inv.empty q (omega arith))
