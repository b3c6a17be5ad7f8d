-- The cells of a run after the last call.
use Rattle.std.specs.Prelude.{◌≡◌, ℕ, ◌+◌, ◌<◌, List, [], length, map, slice_index_or}
use Rattle.plain_model.specs.declared.history.Line.{Line}
use Rattle.plain_model.specs.declared.report.CellDecl.{CellDecl}
use Rattle.plain_model.specs.declared.report.CellReport.{CellReport}
use Rattle.version_slots.specs.declared.tokens.Front.{Front}
use Rattle.interlocked.specs.declared.entry.Kept.{Kept}
use Rattle.interlocked.specs.Known.{Known, Shared}
use Rattle.interlocked.specs.Whole.{EndsWhole, new_pass}
use Rattle.history_merge.specs.Logs.{IsMerged}
use Rattle.seats.specs.Logs.{IsLogged}
use Rattle.workers.specs.Hands.{Handed}

-- the passes of all n workers of a cell, in the order of their numbers, and what each noted since it was new
pub record AreLogged (n : ℕ) (c : Shared) (column : Handed) : Type 0 where
  pub passes : length column.passes ≡ n
  pub logs : length column.logs ≡ n
  pub each : (k : ℕ) (q : Known) → k < n
      → IsLogged (new_pass c.table c.passes c.first (k + 1)) (slice_index_or column.passes k q) (slice_index_or column.logs k [])

-- the same of each cell
pub record AreAllLogged (n : ℕ) (cells : List Shared) (columns : List Handed) : Type 0 where
  pub many : length columns ≡ length cells
  pub each : (c : ℕ) (s : Shared) (h : Handed) → c < length cells → AreLogged n (slice_index_or cells c s) (slice_index_or columns c h)

-- the report of a cell: its lines are those of all logs in one history, at whose end it has its last value
pub record IsClosed (decl : CellDecl) (c : Shared) (column : Handed) (r : CellReport) : Type 0 where
  pub front : Front
  pub kept : Kept
  pub lines : List Line
  pub whole : EndsWhole c.first (map (λ p. p.view) column.passes) front kept
  pub merged : IsMerged c.first.value kept.entries column.logs lines
  pub report : r ≡ record { cell = decl; first = c.first.value; lines = lines; last = kept.value }

-- the reports of the cells at the first places, so many of them
pub record AreClosedTo (n : ℕ) (decls : List CellDecl) (cells : List Shared) (columns : List Handed) (reports : List CellReport) : Type 0 where
  pub many : length reports ≡ n
  pub each : (c : ℕ) (d : CellDecl) (s : Shared) (h : Handed) (r : CellReport) → c < n
      → IsClosed (slice_index_or decls c d) (slice_index_or cells c s) (slice_index_or columns c h) (slice_index_or reports c r)

-- the reports of all cells
abbrev pub AreClosed : List CellDecl → List Shared → List Handed → List CellReport → Type 0
AreClosed decls cells columns reports = AreClosedTo (length decls) decls cells columns reports
