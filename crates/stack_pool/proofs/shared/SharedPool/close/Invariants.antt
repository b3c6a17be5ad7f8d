use Rattle.std.proofs.Common.{◌≡◌, ℕ, length}
use mathlib.Core.Option.{some}
use lib.ListN.{get_elem?}
use Rattle.stack_pool.specs.declared.seat.PoolSeat.{PoolSeat}
use Rattle.stack_pool.specs.Calls.{NoneLent}
use Rattle.stack_pool.proofs.shared.SharedPool.close.Given as goal

abbrev pub invariant-loop-seat : goal.invariant-loop-seat
invariant-loop-seat g l = record {
  table : l.chair.table_id ≡ l.self.table.shared.table_id;
  seats : (k : ℕ) (seat : PoolSeat g.row.S.Denot) → get_elem? l.seats.items k ≡ some seat → (seat.chair.table_id ≡ l.self.table.shared.table_id) × NoneLent seat.chair.me.0;
}

abbrev pub decreases-loop-seat : goal.decreases-loop-seat
decreases-loop-seat g l = length l.seats.items
