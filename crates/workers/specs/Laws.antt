-- What workers come to by a script.
use Rattle.std.specs.Prelude.{ℕ, List}
use Rattle.plain_model.specs.declared.report.CellReport.{CellReport}
use Rattle.plain_model.specs.declared.report.LocalLine.{LocalLine}
use Rattle.plain_model.specs.declared.report.Script.{Script}
use Rattle.plain_model.specs.Lawful.{Lawful}
use Rattle.interlocked.specs.Known.{Shared}
use Rattle.workers.specs.Hands.{Handed}
use Rattle.workers.specs.Opened.{AreCells}
use Rattle.workers.specs.Worked.{AreGathered}
use Rattle.workers.specs.Closed.{AreClosed}

-- n workers had a cell for each declaration, did their parts, and the cells were closed: what is then told of them is a lawful report
abbrev pub ComeToLawfulReports : Type 0
ComeToLawfulReports =
    (script : Script) (n : ℕ) (cells : List Shared) (columns : List Handed) (locals : List (List LocalLine)) (reports : List CellReport)
    → AreCells n script.cells cells → AreGathered script n cells columns locals → AreClosed script.cells cells columns reports
    → Lawful script n (record { workers = n; cells = reports; locals = locals })
