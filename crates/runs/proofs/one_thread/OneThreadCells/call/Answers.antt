use Rattle.std.proofs.Common.{refl, ap, sym, subst, ◌∙◌}
use Rattle.cell_calls.specs.Calls.{Suits, plain_call}
use Rattle.runs.proofs.OneCell.{no_factory}
use Rattle.runs.proofs.OneSteps.{kind_of, kinds_set, kind_is, index_of, all_set, call_is_made}
use Rattle.runs.proofs.one_thread.OneThreadCells.call.Goals as goal

pub call-requires-clause-suits : goal.call-requires-clause-suits
call-requires-clause-suits c =
    let cells = c.args.self.now.cells.items in
    let before = c.index_mut.result.now in
    let may = c.requires.may in
    subst (Suits c.args.call) (kind_is cells c.args.place before may.kind may.at ∙ ap kind_of (sym c.index_mut.ensures.value)) may.suits

pub call-requires-clause-probe : goal.call-requires-clause-probe
call-requires-clause-probe c = no_factory c.index_mut.result.now (plain_call c.args.call) c.requires.may.probe

pub returns-clause-kinds : goal.returns-clause-kinds
returns-clause-kinds c =
    let cells = c.args.self.now.cells.items in
    let one = c.in_ok-call.ensures in
    let within = index_of cells c.args.place c.requires.may.kind c.requires.may.at in
    kinds_set cells c.args.place c.call.new.self c.index_mut.result.now within c.index_mut.ensures.value one.goes_on.decl

pub returns-clause-ready : goal.returns-clause-ready
returns-clause-ready c =
    let one = c.in_ok-call.ensures in
    record { each = all_set c.args.self.now.cells.items c.args.place c.call.new.self c.args.ordinal c.requires.ready.each one.so_far }

pub returns-clause-makes : goal.returns-clause-makes
returns-clause-makes c =
    let s = c.args.self.now in
    let within = index_of s.cells.items c.args.place c.requires.may.kind c.requires.may.at in
    call_is_made s _ c.args.place c.args.ordinal (plain_call c.args.call) c.index_mut.result.now c.call.new.self c.requires.ready within c.index_mut.ensures.value c.in_ok-call.ensures refl
