-- A worker may leave out ordinals.
use Rattle.std.specs.Prelude.{ℕ, ◌+◌}
use Rattle.std.proofs.Common.{arith}
use Rattle.seats.specs.Seats.{Seated, IsReadyFor}

pub seat_waits : (s : Seated) (o : ℕ) → IsReadyFor s o → IsReadyFor s (o + 1)
seat_waits s o h = record {
  passes = h.passes;
  logs = h.logs;
  table = h.table;
  below = λ k p lt. let e = h.below k p lt in omega arith;
  last = let e = h.last in omega arith;
}
