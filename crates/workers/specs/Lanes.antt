-- Workers at their seats.
use Rattle.std.specs.Prelude.{ℕ, ◌+◌, List, IfSome}
use Rattle.plain_model.specs.declared.report.LocalLine.{LocalLine}
use Rattle.plain_model.specs.declared.report.Script.{Script}
use Rattle.plain_model.specs.Lawful.{parts_of}
use Rattle.seats.specs.Seats.{Seated}
use Rattle.seats.specs.Worked.{IsWorked}
use Rattle.workers.specs.declared.lanes.Lane.{Lane}

-- If the worker at a place told its lines, it did its parts at its seat
abbrev pub HasWorkedAt : Script → ℕ → ℕ → Lane Seated (List LocalLine) → Lane Seated (List LocalLine) → Type 0
HasWorkedAt script n k old new = IfSome new.told (λ lines. IsWorked script.cells (parts_of (k + 1) n script.parts) old.seat new.seat lines)
