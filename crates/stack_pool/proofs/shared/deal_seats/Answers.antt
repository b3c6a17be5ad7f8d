use Rattle.std.proofs.Common.{rules, arith, ◌≡◌, ℕ, ◌+◌, ◌-◌, ◌*◌, List, length, sym, ap, ◌∙◌, ⊎_elim}
use lib.ListN.{get_elem?, length-replicate}
use Rattle.stack_pool.specs.declared.view.View.{View}
use Rattle.stack_pool.specs.declared.view.Keep.TheVariants.{Nothing}
use Rattle.stack_pool.specs.declared.seat.PoolSeat.{PoolSeat}
use Rattle.stack_pool.specs.Views.{kept_count, counting, head_or, new_view, dealing, dealt}
use Rattle.stack_pool.proofs.Joins.{deals, none_kept, replicate_at, dealt_new, head_counting, at_push}
use Rattle.stack_pool.proofs.shared.deal_seats.Goals as goal

pub split_seat-next-requires : goal.split_seat-next-requires
split_seat-next-requires g c = let V : Type 0 = View g.row.S.Denot in let inv = c.loop-number.invariant in let a : ℕ = c.loop-number.number in let near = inv.near.0 in let test = c.loop-number-test.true in
    let seats : ℕ = c.args.seats in let few = c.requires.places.3 in let wide = c.requires.places.0 in let some_seat = c.requires.places.2 in
    let next : head_or 16 c.loop-number.chair.me.0.spare ≡ a = ap (λ (u : V). head_or 16 u.spare) inv.view ∙ head_counting a (seats - a) (seats - a - 1) (omega arith) in
    (inv.table, omega arith, deals _ _ _ (omega arith))

pub invariant_of-push : goal.invariant_of-push
invariant_of-push g c = let V : Type 0 = View g.row.S.Denot in let inv = c.loop-number.invariant in let a : ℕ = c.loop-number.number in let few = c.requires.places.3 in let le = inv.near.1 in
    let seats : ℕ = c.args.seats in let ens = c.split_seat-next.ensures in let v : V = new_view seats (a - 1) in
    let is : c.split_seat-next.new.seat.me.0 ≡ v = ap (λ m. m.0) ens.2 ∙ ap (λ (u : V). let x : V = dealing u in x) inv.view in record {
      numbered = (ap (λ (u : V). u.number) is, omega arith);
      known = (ap (λ (u : V). u.takings) is, omega arith);
      few = (ap (λ (u : V). kept_count u.kept) is ∙ none_kept _ (replicate_at g.row.S.Denot (seats * 35)), omega arith);
      empty_hand = ap (λ m. m.1) ens.2 ∙ inv.hand;
      long = ap (λ (u : V). length u.kept) is ∙ (length-replicate (seats * 35) Nothing ∙ (sym c.requires.places.0 ∙ ap (λ t. t.words) (sym (ens.0 ∙ inv.table))));
    }

pub invariant_of-push-2 : goal.invariant_of-push-2
invariant_of-push-2 g c = let V : Type 0 = View g.row.S.Denot in let inv = c.loop-number.invariant in let a : ℕ = c.loop-number.number in let few = c.requires.places.3 in let le = inv.near.1 in
    let seats : ℕ = c.args.seats in let done = c.loop-number-test.false in let is = inv.view in
    let last : a ≡ seats = omega arith in record {
      numbered = (ap (λ (u : V). u.number) is ∙ ap (λ (n : ℕ). n - 1) last, omega arith);
      known = (ap (λ (u : V). u.takings) is, omega arith);
      few = (ap (λ (u : V). kept_count u.kept) is ∙ none_kept _ (replicate_at g.row.S.Denot (seats * 35)), omega arith);
      empty_hand = inv.hand;
      long = ap (λ (u : V). length u.kept) is ∙ (length-replicate (seats * 35) Nothing ∙ (sym c.requires.places.0 ∙ ap (λ t. t.words) (sym inv.table)));
    }

pub loop-number-preserved : goal.loop-number-preserved
loop-number-preserved g c = let V : Type 0 = View g.row.S.Denot in let P : Type 0 = PoolSeat g.row.S.Denot in let inv = c.loop-number.invariant in let a : ℕ = c.loop-number.number in let test = c.loop-number-test.true in
    let seats : ℕ = c.args.seats in let ens = c.split_seat-next.ensures in let items = c.in_ok-push.ensures.items in let count = inv.count in
    let is : c.split_seat-next.new.seat.me.0 ≡ new_view seats (a - 1) = ap (λ m. m.0) ens.2 ∙ ap (λ (u : V). let x : V = dealing u in x) inv.view in record {
      near = (omega arith, omega arith);
      count = search rules;
      table = ens.3 ∙ (search rules);
      hand = ap (λ m. m.1) ens.4;
      view = ap (λ m. m.0) ens.4 ∙ (ap (λ (u : V). let x : V = dealt u in x) inv.view ∙ (dealt_new seats a (seats - (a + 1)) (omega arith)));
      seats = λ k seat e. ⊎_elim (λ f. inv.seats k seat f)
          (λ t. (ap (λ (p : P). p.chair.table_id) (sym t.1) ∙ (ens.0 ∙ inv.table), ap (λ (p : P). p.chair.me.0) (sym t.1) ∙ (is ∙ ap (λ (n : ℕ). let x : V = new_view seats n in x) (let j = t.0 in omega arith))))
          (at_push _ _ _ k (ap (λ (l : List P). get_elem? l k) (sym items) ∙ e));
    }

pub returns-clause-seats : goal.returns-clause-seats
returns-clause-seats g c = λ k seat e. let V : Type 0 = View g.row.S.Denot in let P : Type 0 = PoolSeat g.row.S.Denot in let inv = c.loop-number.invariant in let a : ℕ = c.loop-number.number in
    let seats : ℕ = c.args.seats in let items = c.in_ok-push-2.ensures.items in let count = inv.count in let done = c.loop-number-test.false in let le = inv.near.1 in
    let none_left : seats - a ≡ 0 = omega arith in
    let is : c.loop-number.chair.me.0 ≡ new_view seats (a - 1) = inv.view ∙ ap (λ (n : ℕ). let x : V = record (new_view seats (a - 1)) { spare = counting a n } in x) none_left in
    ⊎_elim (λ f. inv.seats k seat f)
    (λ t. (ap (λ (p : P). p.chair.table_id) (sym t.1) ∙ inv.table, ap (λ (p : P). p.chair.me.0) (sym t.1) ∙ (is ∙ ap (λ (n : ℕ). let x : V = new_view seats n in x) (let j = t.0 in omega arith))))
    (at_push _ _ _ k (ap (λ (l : List P). get_elem? l k) (sym items) ∙ e))
