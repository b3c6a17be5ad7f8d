use Rattle.std.proofs.Common.{◌≡◌, ◌+◌, ◌-◌, ◌≤◌, [], map, length, vec_capacity}
use Rattle.std.specs.Prelude.{All}
use Rattle.version_slots.specs.Views.{counting, first_view}
use Rattle.version_slots.specs.Cells.{new_view}
use Rattle.version_slots.proofs.board.deal.Given as goal

abbrev pub invariant-loop-number : goal.invariant-loop-number
invariant-loop-number g l = record {
  near : l.number ≤ l.count;
  many : length l.passes.items + 1 ≡ l.number;
  room : l.count ≤ vec_capacity l.passes;
  table : l.seat.table_id ≡ l.top.table_id;
  seat : l.seat.me ≡ (record (first_view l.count (g.P.Payload.plain l.top.key.payload.value)) { spare = counting (l.number + 1) (l.count - l.number) }, []);
  views : map (λ p. p.place.me.0) l.passes.items ≡ map (new_view l.count (g.P.Payload.plain l.top.key.payload.value)) (counting 2 (l.number - 1));
  tables : All (λ p. p.place.table_id ≡ l.top.table_id) l.passes.items;
}

abbrev pub decreases-loop-number : goal.decreases-loop-number
decreases-loop-number g l = l.count - l.number
