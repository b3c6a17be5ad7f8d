use Rattle.std.proofs.Common.{rules, arith, ◌≡◌, ℕ, ◌+◌, List, [], ◌∷◌, ◌++◌, length, sym, ap, ◌∙◌, length-append}
use Rattle.stack_pool.specs.declared.view.Found.{Found}
use Rattle.stack_pool.specs.declared.view.Keep.TheVariants.{Home}
use Rattle.stack_pool.specs.declared.view.Kind.TheVariants.{Probe}
use Rattle.stack_pool.specs.declared.view.View.{View}
use Rattle.stack_pool.specs.Views.{number_at}
use Rattle.stack_pool.specs.Steps.{found}
use Rattle.stack_pool.specs.Calls.{probe_steps, take_steps, taken_as, found_more}
use Rattle.stack_pool.proofs.Chains.{took_then, more_found, probes_more, one_more, all_more}
use Rattle.stack_pool.proofs.calls.take_on.Goals as goal

pub returns-then-try_take-eq0-clause-answer : goal.returns-then-try_take-eq0-clause-answer
returns-then-try_take-eq0-clause-answer g c = let V : Type 0 = View g.row.S.Denot in let p : ℕ = c.loop-place.place in let n : ℕ = c.args.number in
    let ws = c.loop-place.invariant.words in let hit = c.try_take.ensures.hit c.if-try_take-eq0.true in (
      search rules,
      (
        ws.0,
        ws.1,
        ws.2,
        c.requires.number.1,
        c.requires.number.0,
        ap (λ (u : V). number_at u p) (sym ws.3) ∙ hit.1,
        took_then _ _ _ p n (Home n c.args.content) hit.2 c.put_home.ensures.view ∙ ap (λ (u : V). let x : V = taken_as u p (Home n c.args.content) (take_steps p n) in x) ws.3,
      ),
    )

pub loop-place-preserved : goal.loop-place-preserved
loop-place-preserved g c = let V : Type 0 = View g.row.S.Denot in let inv = c.loop-place.invariant in let ws = inv.words in let p : ℕ = c.loop-place.place in
    let word : ℕ = c.try_take.result in let ne = c.if-try_take-eq0.false in let miss = c.try_take.ensures.miss ne in let seat = c.try_take.ensures.seat in
    let test = c.loop-place-test.true in let size = ws.1 in let v = c.args.chair.now.me.0 in record {
      near = omega arith;
      table = seat.0 ∙ inv.table;
      id = seat.1 ∙ inv.id;
      hand = miss.0 ∙ inv.hand;
      words = (
        ws.0 ++ word ∷ [],
        length-append ws.0 (word ∷ []) ∙ (omega arith),
        all_more ws.0 word ws.2 ne,
        miss.1 ∙ (ap (λ (u : V). let x : V = found_more u (found Probe p word ∷ []) in x) ws.3
            ∙ (more_found v (probe_steps 0 ws.0) (found Probe p word ∷ [])
            ∙ ap (λ (fs : List Found). let x : V = found_more v fs in x)
            (ap (λ (q : ℕ). probe_steps 0 ws.0 ++ found Probe q word ∷ []) (let e : p ≡ 0 + length ws.0 = omega arith in e) ∙ sym (probes_more 0 word ws.0)))),
      );
    }

pub returns-then-try_take-eq0-clause-taken : goal.returns-then-try_take-eq0-clause-taken
returns-then-try_take-eq0-clause-taken g c = let t = returns-then-try_take-eq0-clause-answer g c in let seated = c.requires.seated in let wide = seated.1 in let long = seated.2 in let near = t.0 in
    let number = c.requires.number.0 in
    one_more _ _ c.loop-place.place (Home c.args.number c.args.content) _ _ (omega arith) t.1.5 (λ z. omega arith) t.1.6
