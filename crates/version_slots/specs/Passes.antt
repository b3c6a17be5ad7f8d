-- What a clause reads of a pass, and of the cell to which it belongs.
use Rattle.std.specs.Prelude.{◌≡◌, ℕ, List, Option}
use Rattle.version_slots.specs.declared.payload.Payload.{Ghosts}
use Rattle.version_slots.specs.declared.cell.VersionCell.{VersionCell}
use Rattle.version_slots.specs.declared.tokens.Note.{Note}
use Rattle.version_slots.specs.declared.tokens.Pass.{Pass}
use Rattle.version_slots.specs.declared.view.Line.{Line}
use Rattle.version_slots.specs.declared.view.Hold.{Hold}
use Rattle.version_slots.specs.declared.view.View.{View}

module _ {P A : Type 0} {g : Ghosts P A} where
  -- what the pass knows
  abbrev pub view_of : Pass P A g → View A
  view_of pass = pass.place.me.0

  -- what it has seen of the history
  abbrev pub seen_by : Pass P A g → List (Line A)
  seen_by pass = pass.place.me.0.seen

  -- the slot that it has in hand
  abbrev pub held_by : Pass P A g → Hold A
  held_by pass = pass.place.me.0.hold

  -- the slot and the tag that it pins
  abbrev pub pinned_by : Pass P A g → Option (ℕ × ℕ)
  pinned_by pass = pass.place.me.0.pin

  -- what the pass knew that told the note
  abbrev pub told_by : Note P A g → View A
  told_by note = note.place.me.0

  -- the pass, and the note, belong to this cell
  abbrev pub IsPassOf : VersionCell P A g → Pass P A g → Type 0
  IsPassOf cell pass = pass.place.table_id ≡ cell.table.shared.table_id

  abbrev pub IsNoteOf : VersionCell P A g → Note P A g → Type 0
  IsNoteOf cell note = note.place.table_id ≡ cell.table.shared.table_id

  -- the second is the first one later
  abbrev pub IsSamePass : Pass P A g → Pass P A g → Type 0
  IsSamePass old new = (new.place.table_id ≡ old.place.table_id) × (new.place.id ≡ old.place.id)

  -- the value with which the cell began
  abbrev pub first_of : (P → A) → VersionCell P A g → A
  first_of plain cell = plain cell.table.shared.key.payload.value
