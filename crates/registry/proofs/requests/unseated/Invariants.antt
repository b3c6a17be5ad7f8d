use Rattle.std.proofs.Common.{◌+◌, ◌≤◌, vec_capacity, vec_len}
use Rattle.registry.proofs.Moves.{Moves}
use Rattle.registry.proofs.requests.unseated.Given as goal

abbrev pub invariant-loop-seat : goal.invariant-loop-seat
invariant-loop-seat g l = record {
  passes_room : vec_len l.seats + vec_len l.passes ≤ vec_capacity l.passes;
  responses_room : vec_len l.seats + vec_len l.responses ≤ vec_capacity l.responses;
  passes : Moves (λ s. s.pass) l.fn.seats.items l.seats.items l.passes.items;
  responses : Moves (λ s. s.response) l.fn.seats.items l.seats.items l.responses.items;
}

abbrev pub decreases-loop-seat : goal.decreases-loop-seat
decreases-loop-seat g l = vec_len l.seats
