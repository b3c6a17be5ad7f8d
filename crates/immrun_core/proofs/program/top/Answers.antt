use Rattle.std.proofs.Common.{refl, subst}
use Rattle.immrun_core.specs.declared.task.Task.TheVariants.{Run}
use Rattle.immrun_core.specs.Outside.{source_ends, sink_ends}
use Rattle.immrun_core.specs.Top.{TextEnd, Ended}
use Rattle.immrun_core.proofs.TaskEnds.{IsEnd, task_end}
use Rattle.immrun_core.proofs.program.top.Goals as goal

is_end : (g : _) (c : goal.After-report_status g) → IsEnd c.args.words.now (source_ends g.Q.Source.left g.Q.Source.faults c.args.source.now c.report.new.source)
    (sink_ends g.S.Sink.taken g.S.Sink.faults c.args.sink.now c.finish-status.new.sink) c.finish-status.result
is_end g c =
    let workers = c.in-Some-workers_of.workers in
    let kept = c.in-None.ensures.untouched refl in
    let read : TextEnd (Run workers) (source_ends g.Q.Source.left g.Q.Source.faults c.args.source.now c.report.new.source) c.report.result =
    subst (λ q. TextEnd (Run workers) (source_ends g.Q.Source.left g.Q.Source.faults q c.report.new.source) c.report.result) kept.0 c.report.ensures in
    let ended = c.finish-status.ensures (Run workers) (source_ends g.Q.Source.left g.Q.Source.faults c.args.source.now c.report.new.source) read in
    task_end c.args.words.now (Run workers) _ _ _ c.in-Some-workers_of.ensures.asked
    (subst (λ s. Ended (Run workers) (source_ends g.Q.Source.left g.Q.Source.faults c.args.source.now c.report.new.source)
    (sink_ends g.S.Sink.taken g.S.Sink.faults s c.finish-status.new.sink) c.finish-status.result) kept.1 ended)

pub returns-in-Some-workers_of-clause-ended : goal.returns-in-Some-workers_of-clause-ended
returns-in-Some-workers_of-clause-ended g c = (is_end g c).ended

pub returns-in-Some-workers_of-clause-usage : goal.returns-in-Some-workers_of-clause-usage
returns-in-Some-workers_of-clause-usage g c = (is_end g c).usage

pub returns-in-Some-workers_of-clause-unread : goal.returns-in-Some-workers_of-clause-unread
returns-in-Some-workers_of-clause-unread g c = (is_end g c).unread

pub returns-in-Some-workers_of-clause-complete : goal.returns-in-Some-workers_of-clause-complete
returns-in-Some-workers_of-clause-complete g c = (is_end g c).complete
