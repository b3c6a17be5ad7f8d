-- What one worker has done.
use Rattle.std.specs.Prelude.{◌≡◌, ℕ, ◌<◌, ◌==◌, List, [], find, length, map, Some, IfSome, slice_index_or}
use Rattle.std.specs.List.{AllByRecursion}
use Rattle.plain_model.specs.declared.commands.Command.{Command}
use Rattle.plain_model.specs.declared.report.CellDecl.{CellDecl}
use Rattle.plain_model.specs.declared.report.CellReport.{CellReport}
use Rattle.plain_model.specs.declared.report.LocalLine.{LocalLine}
use Rattle.plain_model.specs.History.{numbered}
use Rattle.plain_model.specs.Work.{Deed, calls_at, local_lines, work_from}
use Rattle.interlocked.specs.Known.{Known}
use Rattle.interlocked.specs.Rights.{Shows}
use Rattle.runs.specs.Notes.{Note, IsReported}
use Rattle.runs.specs.Places.{decls_in, kinds_of}
use Rattle.seats.specs.Seats.{Seated, IsReadyFor}
use Rattle.seats.specs.Logs.{IsLogged}

-- a seat at the cells of these declarations, from which no call was made
pub record IsReady (decls : List CellDecl) (s : Seated) : Type 0 where
  pub kinds : map (λ p. p.kind) s.passes ≡ kinds_of decls
  pub seat : IsReadyFor s 1
  pub logs : AllByRecursion (λ log. log ≡ []) s.logs

-- the call's line is that of its ordinal in the log of its cell, and what was read is the value that its pass saw there
pub record IsNoted (t : Seated) (n : Note) : Type 0 where
  pub place : n.place < length t.cells
  pub line : find (λ l. l.ordinal == n.line.ordinal) (slice_index_or t.logs n.place []) ≡ Some n.line
  pub value : (q : Known) → IfSome n.value (Shows (slice_index_or t.passes n.place q).view.seen n.line.position)

-- A worker did these parts: its pass of each cell made the calls of its log there, which are those of its deeds, and in all reports that have them the model says these deeds
pub record IsWorked (decls : List CellDecl) (parts : List (List Command)) (s t : Seated) (told : List LocalLine) : Type 0 where
  pub notes : List Note
  pub deeds : List Deed
  pub cells : t.cells ≡ s.cells
  pub passes : length t.passes ≡ length s.cells
  pub logs : length t.logs ≡ length s.cells
  pub lines : told ≡ local_lines deeds
  pub calls : (k : ℕ) (d : CellDecl) → k < length decls → calls_at (slice_index_or decls k d).name deeds ≡ map numbered (slice_index_or t.logs k [])
  pub logged : (k : ℕ) (p q : Known) → k < length s.cells → IsLogged (slice_index_or s.passes k p) (slice_index_or t.passes k q) (slice_index_or t.logs k [])
  pub noted : AllByRecursion (IsNoted t) notes
  pub done : (n : ℕ) (reports : List CellReport) → decls_in reports ≡ decls → AllByRecursion (IsReported n reports) notes → work_from reports n 1 parts ≡ Some deeds
