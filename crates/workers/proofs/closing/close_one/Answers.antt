use Rattle.std.proofs.Common.{sym, subst}
use Rattle.plain_model.specs.declared.report.CellDecl.{CellDecl}
use Rattle.workers.specs.Closed.{IsClosed}
use Rattle.workers.specs.Hands.{Handed}
use Rattle.workers.proofs.Ends.{all_numbers, is_closed}
use Rattle.workers.proofs.closing.close_one.Goals as goal

pub last_plain-requires-clause-all : goal.last_plain-requires-clause-all
last_plain-requires-clause-all c = all_numbers c.args.workers c.args.cell (record { passes = c.args.passes.items; logs = c.args.logs.items }) c.requires.logged c.requires.opened.passes

pub returns : goal.returns
returns c =
    let column : Handed = record { passes = c.args.passes.items; logs = c.args.logs.items } in
    let first = c.in_ok-first.first in
    let last = c.in_ok-last.last in
    let lines = c.in_ok-lines.lines in
    subst (λ (d : CellDecl). IsClosed c.args.decl.now c.args.cell column (record { cell = d; first = first; lines = lines; last = last })) (sym c.in_ok-cell.ensures)
    (is_closed c.args.workers c.args.cell column c.requires.logged c.args.decl.now c.requires.opened first last lines c.in_ok-first.ensures c.in_ok-last.ensures c.in_ok-lines.ensures)
