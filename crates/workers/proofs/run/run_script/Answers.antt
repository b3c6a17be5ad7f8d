use Rattle.std.proofs.Common.{List, map, subst}
use Rattle.plain_model.specs.declared.report.CellDecl.{CellDecl}
use Rattle.interlocked.specs.Known.{Shared}
use Rattle.workers.specs.Closed.{AreClosed}
use Rattle.workers.specs.Hands.{columns_of}
use Rattle.workers.specs.Opened.{AreCells}
use Rattle.workers.specs.Worked.{AreGathered}
use Rattle.workers.proofs.Gathered.{all_logged}
use Rattle.workers.proofs.Reports.{is_lawful}
use Rattle.workers.proofs.run.run_script.Goals as goal

pub close_all-requires-clause-logged : goal.close_all-requires-clause-logged
close_all-requires-clause-logged g c =
    let columns = columns_of (map (λ its. its.items) c.in_ok-done.done.passes.items) (map (λ its. its.items) c.in_ok-done.done.logs.items) in
    all_logged c.args.script.now c.args.workers c.in_ok-cells.cells.items columns c.in_ok-done.done.locals
    (subst (λ (cells : List Shared). AreGathered c.args.script.now c.args.workers cells columns c.in_ok-done.done.locals) c.as_slice.ensures.value c.in_ok-done.ensures)

pub returns : goal.returns
returns g c =
    let columns = columns_of (map (λ its. its.items) c.in_ok-done.done.passes.items) (map (λ its. its.items) c.in_ok-done.done.logs.items) in
    let cells = c.in_ok-cells.cells.items in
    is_lawful c.args.script.now c.args.workers cells columns c.in_ok-done.done.locals c.in_ok-reports.reports
    (subst (λ (ds : List CellDecl). AreCells c.args.workers ds cells) c.as_slice-decls.ensures c.in_ok-cells.ensures.cells)
    (subst (λ (cells : List Shared). AreGathered c.args.script.now c.args.workers cells columns c.in_ok-done.done.locals) c.as_slice.ensures.value c.in_ok-done.ensures)
    (subst (λ (ds : List CellDecl). AreClosed ds cells columns c.in_ok-reports.reports) c.as_slice-decls.ensures c.in_ok-reports.ensures)
