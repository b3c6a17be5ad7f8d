use Rattle.std.proofs.Common.{◌≡◌, map}
use Rattle.workers.specs.Opened.{seat_of}
use Rattle.workers.proofs.opening.seat_all.Given as goal

abbrev pub invariant-loop-its : goal.invariant-loop-its
invariant-loop-its g l = map (λ l. l.seat) l.lanes.items ≡ map (seat_of l.cells) (map (λ its. its.items) l.yielded)
