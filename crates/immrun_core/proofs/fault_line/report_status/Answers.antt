use Rattle.immrun_core.specs.Outside.{sink_ends}
use Rattle.immrun_core.proofs.Told.{line_told}
use Rattle.immrun_core.proofs.fault_line.report_status.Goals as goal

pub returns-in_default : goal.returns-in_default
returns-in_default g c =
    line_told (sink_ends g.E.Sink.taken g.E.Sink.faults c.args.faults.now c.write_line.new.faults) c.args.status c.write_line.result c.in_default.not-Done
    c.write_line.ensures
