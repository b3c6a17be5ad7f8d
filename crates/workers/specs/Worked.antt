-- What all workers of a run have done.
use Rattle.std.specs.Prelude.{◌≡◌, ℕ, ◌+◌, ◌<◌, List, [], length, map, slice_index_or}
use Rattle.plain_model.specs.declared.history.Line.{Line}
use Rattle.plain_model.specs.declared.report.LocalLine.{LocalLine}
use Rattle.plain_model.specs.declared.report.Script.{Script}
use Rattle.plain_model.specs.Lawful.{parts_of}
use Rattle.interlocked.specs.Known.{Known, Shared}
use Rattle.seats.specs.Seats.{Seated}
use Rattle.seats.specs.Worked.{IsWorked}
use Rattle.workers.specs.Hands.{Handed}
use Rattle.workers.specs.Opened.{new_seat}

-- the passes of the cell at a place
abbrev pub passes_at : ℕ → Known → List Seated → List Known
passes_at c q seats = map (λ s. slice_index_or s.passes c q) seats

-- and what was noted of it
abbrev pub logs_at : ℕ → List Seated → List (List Line)
logs_at c seats = map (λ s. slice_index_or s.logs c []) seats

abbrev pub column : ℕ → Known → List Seated → Handed
column c q seats = record { passes = passes_at c q seats; logs = logs_at c seats }

-- for each of so many cells the passes and the logs of all workers
pub record AreColumns (cells : ℕ) (seats : List Seated) (columns : List Handed) : Type 0 where
  pub many : length columns ≡ cells
  pub each : (c : ℕ) (h : Handed) (q : Known) → c < cells → slice_index_or columns c h ≡ column c q seats

-- each of n workers did its parts, and these are its local lines
pub record HaveWorked (script : Script) (n : ℕ) (cells : List Shared) (seats : List Seated) (locals : List (List LocalLine)) : Type 0 where
  pub many : length seats ≡ n
  pub told : length locals ≡ n
  pub each : (k : ℕ) (t : Seated) (ls : List LocalLine) → k < n
      → IsWorked script.cells (parts_of (k + 1) n script.parts) (new_seat (k + 1) cells) (slice_index_or seats k t) (slice_index_or locals k ls)

-- the same, cell by cell
pub record AreGathered (script : Script) (n : ℕ) (cells : List Shared) (columns : List Handed) (locals : List (List LocalLine)) : Type 0 where
  pub seats : List Seated
  pub worked : HaveWorked script n cells seats locals
  pub by_cell : AreColumns (length cells) seats columns
