use Rattle.std.proofs.Common.{arith, length-take}
use Rattle.immrun_core.proofs.StreamSteps.{reading_lost}
use Rattle.immrun_core.proofs.streams.read_all.Goals as goal

pub returns-then-is_err-clause-read : goal.returns-then-is_err-clause-read
returns-then-is_err-clause-read g c =
    let taken = length-take c.min-want.result c.reading.chunk in
    reading_lost _ _ _ _ _ _ _ _ _ c.reading.invariant c.in-Ok.ensures.bytes.0 (omega (arith, c.in-Ok.ensures.bound, taken))
