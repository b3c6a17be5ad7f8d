-- The calls that a worker made, one after another, and what they say of reports.
use Rattle.std.specs.Prelude.{◌≡◌, ℕ, ◌==◌, List, [], ◌∷◌, Option, Some, None, if◌then◌else◌, IfSome, filter_map, slice_get}
use Rattle.plain_model.specs.declared.plain.Plain.{Plain}
use Rattle.plain_model.specs.declared.commands.PlainCall.{PlainCall}
use Rattle.plain_model.specs.declared.history.Line.{Line}
use Rattle.plain_model.specs.declared.report.CellReport.{CellReport}
use Rattle.plain_model.specs.History.{Numbered, numbered}
use Rattle.plain_model.specs.Work.{line_of, value_then}

-- a call on the cell at a place: its line, and the value that was read there, if one was
pub record Note : Type 0 where
  pub place : ℕ
  pub line : Line
  pub value : Option Plain

-- one state comes from another by these calls, each of which does what `makes` says
abbrev pub Connects : {S : Type 0} → (S → Note → S → Type 0) → S → List Note → S → Type 0
Connects makes s [] t = t ≡ s
Connects makes s (n ∷ ns) t = (u : _) × makes s n u × Connects makes u ns t

-- one call was made: this one, with this ordinal, on the cell at this place
pub record Makes {S : Type 0} (makes : S → Note → S → Type 0) (s : S) (at o : ℕ) (call : PlainCall) (read : Option Plain) (t : S) : Type 0 where
  pub note : Note
  pub place : note.place ≡ at
  pub numbered : numbered note.line ≡ record { ordinal = o; call = call }
  pub value : note.value ≡ read
  pub made : makes s note t

-- the calls on the cell at a place
abbrev pub note_at : ℕ → Note → Option Numbered
note_at k n = if n.place == k then Some (numbered n.line) else None

abbrev pub notes_at : ℕ → List Note → List Numbered
notes_at k ns = filter_map (note_at k) ns

-- the lines of the cell at a place
abbrev pub line_at : ℕ → Note → Option Line
line_at k n = if n.place == k then Some n.line else None

abbrev pub lines_at : ℕ → List Note → List Line
lines_at k ns = filter_map (line_at k) ns

-- the call has its line in the history of its cell, and what was read is the value there
pub record IsReported (w : ℕ) (reports : List CellReport) (n : Note) : Type 0 where
  pub report : CellReport
  pub at : slice_get reports n.place ≡ Some report
  pub line : line_of w n.line.ordinal report.lines ≡ Some n.line
  pub value : IfSome n.value (λ p. value_then report n.line ≡ p)
