-- What a cell ends with.
use Rattle.std.specs.Prelude.{◌≡◌, ℕ, ◌+◌, ◌==◌, suc, List, [], ◌∷◌, ◌++◌, length, map, filter}
use mathlib.Core.Option.{some}
use lib.ListN.{get_elem?}
use Rattle.plain_model.specs.declared.plain.Plain.{Plain}
use Rattle.plain_model.specs.declared.commands.PlainCall.{PlainCall}
use Rattle.plain_model.specs.Cell.{after}
use Rattle.version_slots.specs.declared.view.Line.{Line}
use Rattle.version_slots.specs.declared.view.View.{View}
use Rattle.version_slots.specs.declared.tokens.Front.{Front}
use Rattle.version_slots.specs.Histories.{lines_of}
use Rattle.version_slots.specs.Views.{counting}
use Rattle.version_slots.specs.Cells.{EndsAs, new_view}
use Rattle.atomic_table.specs.Seated.{TableId}
use Rattle.interlocked.specs.declared.entry.Kept.{Kept}
use Rattle.interlocked.specs.declared.entry.Entry.{Entry}
use Rattle.interlocked.specs.Entries.{Extends, added}
use Rattle.interlocked.specs.Known.{Known}

-- what the calls of these entries make of a value
abbrev pub made : Plain → List (Entry PlainCall) → Plain
made p [] = p
made p (e ∷ es) = made (after e.call p) es

-- The entries are those that the versions after the first added, in their order: each version has so many of them as its place says, and is what they make of the first one; each entry has the number of its version's pass, and so those of a number are those that this pass added
pub record Adds (first : Kept) (hist : List (Line Kept)) (entries : List (Entry PlainCall)) : Type 0 where
  pub count : length hist ≡ length entries + 1
  pub begins : (i : ℕ) (l : Line Kept) → get_elem? hist i ≡ some l → (length l.value.entries ≡ i) × ((rest : List (Entry PlainCall)) × (entries ≡ l.value.entries ++ rest))
  pub makes : (i : ℕ) (l : Line Kept) → get_elem? hist i ≡ some l → l.value.value ≡ made first.value l.value.entries
  pub all : entries ≡ added hist
  pub own : (number : ℕ) → filter (λ (e : Entry PlainCall). e.caller == number) entries ≡ added (lines_of number hist)
  pub callers : (i : ℕ) (l : Line Kept) (e : Entry PlainCall) → get_elem? hist (suc i) ≡ some l → get_elem? entries i ≡ some e → e.caller ≡ l.number

-- What a cell that began with `first` ends with, where these are its passes
pub record EndsWhole (first : Kept) (views : List (View Kept)) (front : Front) (kept : Kept) : Type 0 where
  pub ends : EndsAs Extends first views front kept
  pub adds : Adds first ends.hist kept.entries

-- a new pass of a cell with so many passes
abbrev pub new_pass : TableId → ℕ → Kept → ℕ → Known
new_pass table passes first number = record { table = table; view = new_view passes first number; last = 0; kind = first.value.kind }

abbrev pub new_passes : TableId → ℕ → Kept → List Known
new_passes table passes first = map (new_pass table passes first) (counting 1 passes)
