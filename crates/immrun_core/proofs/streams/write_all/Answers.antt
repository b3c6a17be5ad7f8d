use Rattle.immrun_core.proofs.StreamSteps.{writing_on}
use Rattle.immrun_core.proofs.streams.write_all.Goals as goal

pub writing-preserved : goal.writing-preserved
writing-preserved g c = writing_on _ _ _ _ _ _ _ _ _ c.writing.invariant c.in-Ok.ensures.bound c.in-Ok.ensures.bytes c.in-Ok.ensures.cause.later
