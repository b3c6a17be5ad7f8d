use Rattle.std.proofs.Common.{◌≡◌, Some, refl, ap, sym, subst}
use Rattle.immrun_core.specs.declared.status.Status.{Status}
use Rattle.immrun_core.specs.declared.task.Task.TheVariants.{Check, Gen}
use Rattle.immrun_core.specs.Outside.{SourceEnds, SinkEnds, Unread, Unwritten, source_ends, sink_ends}
use Rattle.immrun_core.specs.Top.{Asks, IsRun}
use Rattle.immrun_core.proofs.TaskEnds.{IsEnd, task_end, usage_end, check_only, generated_only, unknown_only}
use Rattle.immrun_core.proofs.program.plain_top.Goals as goal
use Rattle.immrun_core.proofs.program.plain_top.Goals.{in-Some-Check, in-Some-Gen, in-None}

-- the end of the call, with equal ends and an equal status
end_so : (words : _) (q q' : SourceEnds) (s s' : SinkEnds) (r r' : Status) → q' ≡ q → s' ≡ s → r' ≡ r → IsEnd words q s r → IsEnd words q' s' r'
end_so words q q' s s' r r' source sink status end =
    subst (λ x. IsEnd words x s' r') (sym source) (subst (λ x. IsEnd words q x r') (sym sink) (subst (λ x. IsEnd words q s x) (sym status) end))

-- how it ended, and that the words were not those of a run
is_end : (g : _) (c : goal.After-report_status g) → IsEnd c.args.words.now (source_ends g.Q.Source.left g.Q.Source.faults c.args.source.now c.match-task_of.source)
    (sink_ends g.S.Sink.taken g.S.Sink.faults c.args.sink.now c.match-task_of.sink) c.match-task_of.status × ¬ IsRun c.args.words.now
is_end g c =
    let source = source_ends g.Q.Source.left g.Q.Source.faults c.args.source.now in
    let sink = sink_ends g.S.Sink.taken g.S.Sink.faults c.args.sink.now in
    let words = c.args.words.now in
    elim c.match-task_of.branch [
      | in-Some-Check w ↦ let asked = subst (Asks words) w.in-Some-Check.field-0-is w.in-Some-Check.ensures.asked in (
        end_so words _ _ _ _ _ _ (ap source w.source-is) (ap sink w.sink-is) w.status-is
            (task_end words Check _ _ _ asked (w.finish-status.ensures Check _ w.canonical.ensures)),
        check_only words asked,
      )
      | in-Some-Gen w ↦ let asked = subst (Asks words) w.in-Some-Gen.field-0-is w.in-Some-Gen.ensures.asked in
          let unread : Unread (source c.args.source.now) = record { left = refl; faults = refl } in (
            end_so words _ _ _ _ _ _ (ap source w.source-is) (ap sink w.sink-is) w.status-is
                (task_end words (Gen _) _ _ _ asked (w.finish-status-in-Some-Gen.ensures (Gen _) _ (w.summary.ensures (source c.args.source.now) unread))),
            generated_only words _ asked,
          )
      | in-None w ↦ let unknown = w.in-None.ensures.unknown refl in
          let unread : Unread (source c.args.source.now) = record { left = refl; faults = refl } in
          let unwritten : Unwritten (sink c.args.sink.now) = record { taken = refl; faults = refl } in (
            end_so words _ _ _ _ _ _ (ap source w.source-is) (ap sink w.sink-is) w.status-is
                (usage_end words _ _ unknown (record { unread = unread; unwritten = unwritten })),
            unknown_only words unknown,
          )
    ]

pub returns-clause-none : goal.returns-clause-none
returns-clause-none g c = (λ e. absurd cc, λ run. absurd ((is_end g c).1 run))

pub returns-clause-ended : goal.returns-clause-ended
returns-clause-ended g c = (is_end g c).0.ended

pub returns-clause-usage : goal.returns-clause-usage
returns-clause-usage g c = (λ e. (is_end g c).0.usage.0 cc, λ unknown. ap Some ((is_end g c).0.usage.1 unknown))

pub returns-clause-unread : goal.returns-clause-unread
returns-clause-unread g c e = (is_end g c).0.unread cc

pub returns-clause-complete : goal.returns-clause-complete
returns-clause-complete g c = (is_end g c).0.complete
