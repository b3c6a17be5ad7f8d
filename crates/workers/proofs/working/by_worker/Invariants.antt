use Rattle.std.proofs.Common.{◌≡◌, map, Some}
use Rattle.workers.proofs.working.by_worker.Given as goal

abbrev pub invariant-loop-lane : goal.invariant-loop-lane
invariant-loop-lane g l = record {
  passes : map (λ its. its.items) l.passes.items ≡ map (λ l. l.seat.passes) l.yielded;
  logs : map (λ its. its.items) l.logs.items ≡ map (λ l. l.seat.logs) l.yielded;
  told : map (λ lines. Some lines) l.locals ≡ map (λ l. l.told) l.yielded;
}
