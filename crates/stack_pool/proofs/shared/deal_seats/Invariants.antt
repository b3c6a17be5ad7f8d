use Rattle.std.proofs.Common.{◌≡◌, ◌+◌, ◌-◌, ℕ, ◌<◌, ◌≤◌, [], length}
use mathlib.Core.Option.{some}
use lib.ListN.{get_elem?}
use Rattle.stack_pool.specs.declared.seat.PoolSeat.{PoolSeat}
use Rattle.stack_pool.specs.Views.{counting, new_view}
use Rattle.stack_pool.proofs.shared.deal_seats.Given as goal

abbrev pub invariant-loop-number : goal.invariant-loop-number
invariant-loop-number g l = record {
  near : (0 < l.number) × (l.number ≤ l.seats);
  count : length l.dealt.items + 1 ≡ l.number;
  table : l.chair.table_id ≡ l.board.table_id;
  hand : l.chair.me.1 ≡ [];
  view : l.chair.me.0 ≡ record (new_view l.seats (l.number - 1)) { spare = counting l.number (l.seats - l.number) };
  seats : (k : ℕ) (seat : PoolSeat g.row.S.Denot) → get_elem? l.dealt.items k ≡ some seat → (seat.chair.table_id ≡ l.board.table_id) × (seat.chair.me.0 ≡ new_view l.seats k);
}
