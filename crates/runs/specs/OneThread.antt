-- Cells during a run on one thread.
use Rattle.std.specs.Prelude.{◌≡◌, ℕ, Bool, ◌+◌, ◌<◌, List, [], ◌∷◌, ◌++◌, length, map, Option, Ok, IfSome, is_some, unwrap_or, if◌then◌else◌, slice_index_or, slice_set}
use Rattle.std.specs.List.{AllByRecursion}
use Rattle.plain_model.specs.declared.plain.Kind.{Kind}
use Rattle.plain_model.specs.declared.commands.PlainCall.{PlainCall}
use Rattle.plain_model.specs.declared.commands.PlainCall.TheVariants as calls
use Rattle.plain_model.specs.declared.history.Line.{Line}
use Rattle.plain_model.specs.declared.report.CellDecl.{CellDecl}
use Rattle.plain_model.specs.declared.report.CellReport.{CellReport}
use Rattle.plain_model.specs.Plain.{first_value}
use Rattle.plain_model.specs.Cell.{Outcome}
use Rattle.plain_model.specs.History.{FitsFrom, InOrder, ProbesFrom, last_value, position_after, numbered}
use Rattle.runs.specs.declared.cell_run.CellRun.{CellRun}
use Rattle.runs.specs.declared.one_thread.OneThread.{OneThread}
use Rattle.runs.specs.Notes.{Note}

-- ---- one cell

-- the position after a call that installs, or does not
abbrev pub next_position : ℕ → Bool → ℕ
next_position position installs = if installs then position + 1 else position

-- the line of a call of the one worker
abbrev pub line_of_call : ℕ → PlainCall → Outcome → ℕ → Line
line_of_call o call out position = record {
  position = next_position position (is_some out.installs);
  caller = 1;
  ordinal = o;
  call = call;
  reply = out.reply;
  installed = is_some out.installs;
}

-- the cell after a call that comes to this
abbrev pub after_call : ℕ → PlainCall → Outcome → CellRun → CellRun
after_call o call out c = record {
  decl = c.decl;
  first = c.first;
  value = unwrap_or out.installs c.value;
  position = next_position c.position (is_some out.installs);
  lines = c.lines ++ line_of_call o call out c.position ∷ [];
}

-- a line of the one worker with an ordinal below this one
pub record IsEarlier (o : ℕ) (l : Line) : Type 0 where
  pub caller : l.caller ≡ 1
  pub ordinal : l.ordinal < o

-- what is known of a cell before the call with this ordinal
pub record IsSoFar (o : ℕ) (c : CellRun) : Type 0 where
  pub first : first_value c.decl.kind c.decl.values ≡ Ok c.first
  pub kind : c.value.kind ≡ c.decl.kind
  pub fits : FitsFrom c.first 0 c.lines
  pub value : c.value ≡ last_value c.first c.lines
  pub position : c.position ≡ position_after 0 c.lines
  pub order : InOrder c.lines
  pub probes : ProbesFrom c.first [] c.lines
  pub earlier : AllByRecursion (IsEarlier o) c.lines
  pub low : c.position < o

-- a cell went on by one line
pub record GoesOnBy (l : Line) (c d : CellRun) : Type 0 where
  pub lines : d.lines ≡ c.lines ++ l ∷ []
  pub decl : d.decl ≡ c.decl
  pub first : d.first ≡ c.first

-- a cell after a call with this ordinal, and its line
pub record HasCalled (o : ℕ) (call : PlainCall) (c d : CellRun) : Type 0 where
  pub line : Line
  pub numbered : numbered line ≡ record { ordinal = o; call = call }
  pub caller : line.caller ≡ 1
  pub goes_on : GoesOnBy line c d
  pub so_far : IsSoFar (o + 1) d

-- what is told of it after the last call
abbrev pub report_of : CellRun → CellReport
report_of c = record { cell = c.decl; first = c.first; lines = c.lines; last = c.value }

-- ---- all cells

abbrev pub kinds_in : OneThread → List Kind
kinds_in t = map (λ c. c.decl.kind) t.cells.items

-- each cell is before this ordinal
pub record AreSoFar (t : OneThread) (o : ℕ) : Type 0 where
  pub each : (k : ℕ) (c : CellRun) → k < length t.cells.items → IsSoFar o (slice_index_or t.cells.items k c)

-- a call on the cell at a place
pub record CallsOne (s : OneThread) (n : Note) (t : OneThread) : Type 0 where
  pub before : CellRun
  pub after : CellRun
  pub within : n.place < length s.cells.items
  pub at : before ≡ slice_index_or s.cells.items n.place before
  pub cells : t.cells.items ≡ slice_set s.cells.items n.place after
  pub so_far : IsSoFar n.line.ordinal before
  pub caller : n.line.caller ≡ 1
  pub goes_on : GoesOnBy n.line before after
  pub read : IfSome n.value (λ p. (p ≡ before.value) × (n.line.call ≡ calls.Read))
