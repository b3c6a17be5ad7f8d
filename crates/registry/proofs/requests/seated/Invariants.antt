use Rattle.std.proofs.Common.{◌≡◌, ◌+◌, ◌≤◌, vec_capacity, vec_len}
use Rattle.registry.specs.Seats.{seat}
use Rattle.registry.proofs.Moves.{Moves}
use Rattle.registry.proofs.requests.seated.Given as goal

abbrev pub invariant-loop-pass : goal.invariant-loop-pass
invariant-loop-pass g l = record {
  room : vec_len l.passes + vec_len l.seats ≤ vec_capacity l.seats;
  capacity : vec_capacity l.passes ≡ vec_capacity l.fn.passes;
  moves : Moves seat l.fn.passes.items l.passes.items l.seats.items;
}

abbrev pub decreases-loop-pass : goal.decreases-loop-pass
decreases-loop-pass g l = vec_len l.passes
