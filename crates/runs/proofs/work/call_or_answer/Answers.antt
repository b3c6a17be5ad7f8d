use Rattle.std.proofs.Common.{◌≡◌, refl, sym, subst, ◌∙◌, None, Some}
use Rattle.std.specs.Prelude.{Option}
use Rattle.plain_model.specs.declared.commands.PlainCall.{PlainCall}
use Rattle.plain_model.specs.Names.{Name}
use Rattle.plain_model.specs.Work.{call_of}
use Rattle.runs.specs.Needs.{CanCallOrAnswer}
use Rattle.runs.proofs.Deeds.{answer_is_done, call_is_done, kind_within, makes_call, may_call}
use Rattle.runs.proofs.work.call_or_answer.Goals as goal

pub call_cell-requires-clause-may : goal.call_cell-requires-clause-may
call_cell-requires-clause-may g c =
    let is : call_of c.args.command.now ≡ Some (c.in-Some.called.0, c.in-Some.called.1) = sym c.in_ok-called.ensures ∙ c.in-Some.is in
    may_call c.args.decls.now c.args.command.now c.args.worker.now.names c.in-Some.called.0 c.in-Some.called.1 is c.requires.can

pub returns-in_ok-call_cell-in-Some-clause-done : goal.returns-in_ok-call_cell-in-Some-clause-done
returns-in_ok-call_cell-in-Some-clause-done g c =
    let command = c.args.command.now in
    let is : call_of command ≡ Some (c.in-Some.called.0, c.in-Some.called.1) = sym c.in_ok-called.ensures ∙ c.in-Some.is in
    let made = makes_call command c.in-Some.called.0 c.in-Some.called.1 is in
    let may = may_call c.args.decls.now command c.args.worker.now.names c.in-Some.called.0 c.in-Some.called.1 is c.requires.can in
    call_is_done g.T.Cells.makes c.args.decls.now c.requires.apart c.args.cells.now c.call_cell.new.cells c.in-Some.called.0 c.args.ordinal
    command c.in-Some.called.1 c.args.worker.now c.args.worker.now refl (made.leaves c.args.decls.now c.args.worker.now.names) (λ reports n. made.deed reports n c.args.ordinal c.args.worker.now.names)
    (kind_within c.args.decls.now c.in-Some.called.0 may.kind may.at) c.in_ok-call_cell-in-Some.ensures.makes

pub answer-requires : goal.answer-requires
answer-requires g c =
    let is : call_of c.args.command.now ≡ None = sym c.in_ok-called.ensures ∙ c.in-None.is in
    subst (λ (x : Option (Name × PlainCall)). CanCallOrAnswer c.args.decls.now x c.args.command.now c.args.worker.now.names) is c.requires.can

pub returns-in_ok-answer-in-None-clause-done : goal.returns-in_ok-answer-in-None-clause-done
returns-in_ok-answer-in-None-clause-done g c =
    answer_is_done g.T.Cells.makes c.args.decls.now c.args.cells.now c.args.ordinal c.args.command.now c.args.worker.now c.answer.new.worker c.in_ok-answer-in-None.ensures
