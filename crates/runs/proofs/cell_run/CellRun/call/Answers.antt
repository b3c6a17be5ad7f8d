use Rattle.std.proofs.Common.{sym, ap, subst, ◌∙◌}
use Rattle.cell_calls.specs.Calls.{Suits, plain_call}
use Rattle.cell_calls.specs.Outcomes.{plain_outcome}
use Rattle.runs.specs.OneThread.{after_call, HasCalled}
use Rattle.runs.proofs.OneCell.{call_made}
use Rattle.runs.proofs.cell_run.CellRun.call.Goals as goal

pub apply-requires : goal.apply-requires
apply-requires c = subst (Suits c.args.call) (sym c.requires.so_far.kind) c.requires.suits

pub returns : goal.returns
returns c =
    let o = c.args.ordinal in
    let call = c.args.call in
    let s = c.args.self.now in
    let out = c.in_ok-outcome.outcome in
    subst (λ d. HasCalled o (plain_call call) s d)
    (sym (c.in_ok-push_line.ensures ∙ (ap (λ q. after_call o q (plain_outcome out) s) c.in_ok-call.ensures ∙ ap (λ x. after_call o (plain_call call) x s) c.in_ok-outcome.ensures.outcome)))
    (call_made o call s c.requires.so_far c.requires.suits c.requires.probe)
