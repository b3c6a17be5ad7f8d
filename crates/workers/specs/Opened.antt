-- The cells of a run and what its workers have of them, before the first call.
use Rattle.std.specs.Prelude.{◌≡◌, ℕ, ◌<◌, List, [], length, map, Ok, slice_index_or}
use Rattle.plain_model.specs.declared.history.Line.{Line}
use Rattle.plain_model.specs.declared.report.CellDecl.{CellDecl}
use Rattle.plain_model.specs.Plain.{first_value}
use Rattle.interlocked.specs.Known.{Known, Shared}
use Rattle.interlocked.specs.Whole.{new_pass, new_passes}
use Rattle.seats.specs.Seats.{Seated}

-- a cell of n workers that has its first value
pub record IsOpened (n : ℕ) (decl : CellDecl) (c : Shared) : Type 0 where
  pub passes : c.passes ≡ n
  pub entries : c.first.entries ≡ []
  pub first : first_value decl.kind decl.values ≡ Ok c.first.value
  pub kind : c.first.value.kind ≡ decl.kind

-- the new passes of the worker w
abbrev pub passes_of : ℕ → List Shared → List Known
passes_of w cells = map (λ c. new_pass c.table c.passes c.first w) cells

-- the new passes of a cell, in the order of their numbers
abbrev pub all_passes : Shared → List Known
all_passes c = new_passes c.table c.passes c.first

-- logs with no lines
abbrev pub no_logs : List Shared → List (List Line)
no_logs cells = map (λ c. []) cells

-- a seat with these passes, from which no call was made
abbrev pub seat_of : List Shared → List Known → Seated
seat_of cells passes = record { cells = cells; passes = passes; logs = no_logs cells; last = 0 }

-- the seat of the worker w
abbrev pub new_seat : ℕ → List Shared → Seated
new_seat w cells = seat_of cells (passes_of w cells)

-- a cell for each of these declarations
pub record AreCells (n : ℕ) (decls : List CellDecl) (cells : List Shared) : Type 0 where
  pub many : length cells ≡ length decls
  pub each : (c : ℕ) (d : CellDecl) (s : Shared) → c < length cells → IsOpened n (slice_index_or decls c d) (slice_index_or cells c s)
