-- What stays the same of a seat that steps.
use Rattle.std.specs.Prelude.{◌≡◌, ℕ, ◌*◌, ◌<◌, ◌≤◌, List, [], Option}
use Rattle.atomic_table.specs.declared.shared.Seat.{Seat}
use Rattle.stack_pool.specs.declared.view.View.{View}
use Rattle.stack_pool.specs.declared.seat.PoolSeat.{PoolSeat}

module _ {S : Type 0} where
  -- it is the same seat of the same table, and has these slots in its hand
  abbrev pub HasHand : Seat (Option S) (View S) → Seat (Option S) (View S) → List (ℕ
      × Option S) → Type 0
  HasHand old new hand = (new.table_id ≡ old.table_id) × (new.id ≡ old.id) × (new.me.1 ≡ hand)

  -- the table, the seat's place in it and its hand are as before
  abbrev pub SameChair : Seat (Option S) (View S) → Seat (Option S) (View S) → Type 0
  SameChair old new = HasHand old new old.me.1

  -- the pool, the seat's place in it and its number are as before
  abbrev pub SameSeat : PoolSeat S → PoolSeat S → Type 0
  SameSeat old new = (new.chair.table_id ≡ old.chair.table_id) × (new.chair.id ≡ old.chair.id)
      × (new.number ≡ old.number)
