use Rattle.std.proofs.Common.{arith, ◌≡◌, ℕ, ◌+◌, ◌-◌, List, [], ◌∷◌, length, length-append, map, sym, ap, ◌∙◌, subst}
use Rattle.std.specs.Prelude.{All}
use Rattle.std.proofs.lemmas.List.Elements.{All-push}
use Rattle.atomic_table.specs.Table.{Splits}
use Rattle.version_slots.specs.declared.view.View.{View}
use Rattle.version_slots.specs.declared.tokens.Pass.{Pass}
use Rattle.version_slots.specs.Views.{counting, dealing, dealt, head_or, first_view, newcomer}
use Rattle.version_slots.specs.Rule.{Sound}
use Rattle.version_slots.specs.Cells.{new_view}
use Rattle.version_slots.proofs.Deals.{counting_step, mapped_next, all_turned}
use Rattle.version_slots.proofs.Shares.{deals}
use Rattle.version_slots.proofs.board.deal.Goals as goal

pub split_seat-place-requires : goal.split_seat-place-requires
split_seat-place-requires g c = let V : Type 0 = View g.row.P-Plain.Denot in let inv = c.loop-number.invariant in let words = c.requires.table.1 in
    let x : g.row.P-Plain.Denot = g.P.Payload.plain c.args.top.now.key.payload.value in let number : ℕ = c.loop-number.number in
    let v : V = record (first_view c.args.count x) { spare = counting (number + 1) (c.args.count - number) } in
    let view : c.loop-number.seat.me.0 ≡ v = ap (λ m. m.0) inv.seat in (
      inv.table,
      omega arith,
      subst (λ (u : V). Splits (Sound g.P.Payload.plain g.P.Payload.follows c.args.top.now.key.passes x) c.loop-number.seat.id u (dealing u) (dealt u)) (sym view)
          (deals g.P.Payload.plain g.P.Payload.follows c.args.top.now.key.passes x c.loop-number.seat.id (number + 1) (counting (number + 1 + 1) (c.args.count - (number + 1))) v (λ e. cc)
          (counting_step number c.args.count c.loop-number-test.true)),
    )

pub of-requires-clause-view : goal.of-requires-clause-view
of-requires-clause-view g c = let V : Type 0 = View g.row.P-Plain.Denot in let inv = c.loop-number.invariant in
    let x : g.row.P-Plain.Denot = g.P.Payload.plain c.args.top.now.key.payload.value in let number : ℕ = c.loop-number.number in (
      c.args.count,
      x,
      c.requires.table.2 ∙ ap (λ t. t.slots) (sym (c.split_seat-place.ensures.3 ∙ inv.table)),
      c.args.top.now.key.first,
      c.split_seat-place.ensures.4 ∙ (ap (λ m. (dealt m.0, [])) inv.seat
          ∙ ap (λ (l : List ℕ). (newcomer (head_or 0 l) (first_view c.args.count x), [])) (counting_step number c.args.count c.loop-number-test.true)),
    )

pub loop-number-preserved : goal.loop-number-preserved
loop-number-preserved g c = let V : Type 0 = View g.row.P-Plain.Denot in let B : Type 0 = Pass g.row.P.Denot g.row.P-Plain.Denot g.P.Payload in
    let inv = c.loop-number.invariant in let many = inv.many in let less = c.loop-number-test.true in
    let x : g.row.P-Plain.Denot = g.P.Payload.plain c.args.top.now.key.payload.value in let number : ℕ = c.loop-number.number in
    let step = counting_step number c.args.count less in
    let me : c.of.result.place.me.0 ≡ new_view c.args.count x (number + 1) = ap (λ p. p.me.0) c.of.ensures.1 ∙ ap (λ m. m.0) (c.split_seat-place.ensures.4 ∙ (ap (λ m. (dealt m.0, [])) inv.seat
    ∙ ap (λ (l : List ℕ). (newcomer (head_or 0 l) (first_view c.args.count x), [])) step)) in
    let longer = length-append c.loop-number.passes.items (c.of.result ∷ []) in let items = c.push_reserved.ensures.items in let count = ap length items in record {
      near = omega arith;
      many = omega arith;
      room = omega arith;
      table = c.split_seat-place.ensures.0 ∙ inv.table;
      seat = c.split_seat-place.ensures.2 ∙ (ap (λ m. (dealing m.0, m.1)) inv.seat ∙ ap (λ (l : List ℕ). (record (first_view c.args.count x) { spare = Rattle.version_slots.specs.Views.tail l }, [])) step);
      views = ap (map (λ (p : B). p.place.me.0)) items ∙ mapped_next (λ (p : B). p.place.me.0) (new_view c.args.count x) c.loop-number.passes.items c.of.result number (omega arith) inv.views me;
      tables = subst (All (λ (p : B). p.place.table_id ≡ c.args.top.now.table_id)) (sym items)
          (All-push (λ (p : B). p.place.table_id ≡ c.args.top.now.table_id) c.loop-number.passes.items c.of.result inv.tables (ap (λ p. p.table_id) c.of.ensures.1 ∙ (c.split_seat-place.ensures.3 ∙ inv.table)));
    }

pub returns-clause-table : goal.returns-clause-table
returns-clause-table g c = let B : Type 0 = Pass g.row.P.Denot g.row.P-Plain.Denot g.P.Payload in let inv = c.loop-number.invariant in
    let P : B → Type 0 = λ p. p.place.table_id ≡ c.args.top.now.table_id in
    let all : All P c.push_reserved-2.new.self.items = subst (All P) (sym c.push_reserved-2.ensures.items) (All-push P c.loop-number.passes.items c.of-2.result inv.tables (ap (λ p. p.table_id) c.of-2.ensures.1 ∙ inv.table)) in
    all_turned P _ c.push_reserved-2.new.self.items c.rotate_right.new.self.items c.rotate_right.ensures.items all
