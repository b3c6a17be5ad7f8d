use Rattle.std.proofs.Common.{◌+◌, ◌-◌, vec_len}
use Rattle.immrun_core.specs.Outside.{max_input, source_ends}
use Rattle.immrun_core.proofs.StreamSteps.{Reading}
use Rattle.immrun_core.proofs.streams.read_all.Given as goal

abbrev pub invariant-reading : goal.invariant-reading
invariant-reading g l = Reading (source_ends g.Q.Source.left g.Q.Source.faults l.fn.source l.source) l.input.items

abbrev pub decreases-reading : goal.decreases-reading
decreases-reading g l = max_input + 1 - vec_len l.input
