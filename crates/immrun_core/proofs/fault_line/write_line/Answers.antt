use Rattle.std.proofs.Common.{subst, sym}
use Rattle.immrun_core.specs.Outside.{sink_ends, WriteEnd}
use Rattle.immrun_core.specs.Status.{fault_line}
use Rattle.immrun_core.proofs.fault_line.write_line.Goals as goal

pub returns-in-Usage : goal.returns-in-Usage
returns-in-Usage g c =
    subst (λ s. WriteEnd (sink_ends g.E.Sink.taken g.E.Sink.faults c.args.faults.now c.write_all.new.sink) (fault_line s) c.write_all.result)
    (sym c.in-Usage.is) c.write_all.ensures.write

pub returns-in-Refused : goal.returns-in-Refused
returns-in-Refused g c =
    subst (λ s. WriteEnd (sink_ends g.E.Sink.taken g.E.Sink.faults c.args.faults.now c.write_refusal.new.faults) (fault_line s) c.write_refusal.result)
    (sym c.in-Refused.is) c.write_refusal.ensures

pub returns-in-ReadFault : goal.returns-in-ReadFault
returns-in-ReadFault g c =
    let w = c.write_all-in-ReadFault in
    subst (λ s. WriteEnd (sink_ends g.E.Sink.taken g.E.Sink.faults c.args.faults.now w.new.sink) (fault_line s) w.result) (sym c.in-ReadFault.is) w.ensures.write

pub returns-in-WriteFault : goal.returns-in-WriteFault
returns-in-WriteFault g c =
    let w = c.write_all-in-WriteFault in
    subst (λ s. WriteEnd (sink_ends g.E.Sink.taken g.E.Sink.faults c.args.faults.now w.new.sink) (fault_line s) w.result) (sym c.in-WriteFault.is) w.ensures.write

pub returns-in-TooLong : goal.returns-in-TooLong
returns-in-TooLong g c =
    let w = c.write_all-in-TooLong in
    subst (λ s. WriteEnd (sink_ends g.E.Sink.taken g.E.Sink.faults c.args.faults.now w.new.sink) (fault_line s) w.result) (sym c.in-TooLong.is) w.ensures.write
