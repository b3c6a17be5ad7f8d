use Rattle.std.proofs.Common.{◌-◌, length}
use Rattle.immrun_core.specs.Outside.{sink_ends}
use Rattle.immrun_core.proofs.StreamSteps.{Writing}
use Rattle.immrun_core.proofs.streams.write_all.Given as goal

abbrev pub invariant-writing : goal.invariant-writing
invariant-writing g l = Writing (sink_ends g.S.Sink.taken g.S.Sink.faults l.fn.sink l.sink) l.text l.at

abbrev pub decreases-writing : goal.decreases-writing
decreases-writing g l = length l.text - l.at
