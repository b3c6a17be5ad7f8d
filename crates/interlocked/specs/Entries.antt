-- The calls that installed, and what a version of a cell means.
use Rattle.std.specs.Prelude.{◌≡◌, ℕ, zero, suc, ◌<◌, List, [], ◌∷◌, ◌++◌, length, slice_get, Option, Some, None}
use mathlib.Core.Option.{some}
use lib.ListN.{get_elem?}
use Rattle.plain_model.specs.declared.plain.Kind.{Kind}
use Rattle.plain_model.specs.declared.plain.Kind.TheVariants as kinds
use Rattle.plain_model.specs.declared.plain.Plain.{Plain}
use Rattle.plain_model.specs.declared.commands.PlainCall.{PlainCall}
use Rattle.plain_model.specs.Cell.{cell}
use Rattle.version_slots.specs.declared.view.Line.{Line}
use Rattle.interlocked.specs.declared.entry.Entry.{Entry}
use Rattle.interlocked.specs.declared.entry.Kept.{Kept}

-- the entry that a version adds to those of the version before it
abbrev pub entry : ℕ → ℕ → PlainCall → Entry PlainCall
entry caller ordinal call = record { caller = caller; ordinal = ordinal; call = call }

-- the ordinals of this caller's entries are below this one
abbrev pub AreBelow : ℕ → ℕ → List (Entry PlainCall) → Type 0
AreBelow number ordinal entries = (i : ℕ) (e : Entry PlainCall) → get_elem? entries i ≡ some e → e.caller ≡ number → e.ordinal < ordinal

-- The second version has the entries of the first and one more: this caller's call, with an ordinal above its earlier ones. Its collection is the one that the call installs on that of the first, and has its kind and its comparer
pub record Extends (number : ℕ) (old new : Kept) : Type 0 where
  pub ordinal : ℕ
  pub call : PlainCall
  pub above : AreBelow number ordinal old.entries
  pub entries : new.entries ≡ old.entries ++ entry number ordinal call ∷ []
  pub installs : (cell call old.value).installs ≡ Some new.value
  pub kind : new.value.kind ≡ old.value.kind

-- how many calls installed before
abbrev pub position_of : Kept → ℕ
position_of k = length k.entries

-- the call that made this position: the position 0 has none
abbrev pub entry_at : ℕ → List (Entry PlainCall) → Option (Entry PlainCall)
entry_at zero entries = None
entry_at (suc before) entries = slice_get entries before

-- the kind of the first version of a history, which all later ones keep
abbrev pub kind_in : List (Line Kept) → Kind
kind_in [] = kinds.List
kind_in (l ∷ ls) = l.value.value.kind

-- a history has a first version
abbrev pub IsBegun : List (Line Kept) → Type 0
IsBegun hist = (l : Line Kept) × (ls : List (Line Kept)) × (hist ≡ l ∷ ls)

-- the last entry, if there is one
abbrev pub newest : List (Entry PlainCall) → List (Entry PlainCall)
newest [] = []
newest (x ∷ []) = x ∷ []
newest (x ∷ y ∷ ys) = newest (y ∷ ys)

-- the entries that these versions added, in their order
abbrev pub added : List (Line Kept) → List (Entry PlainCall)
added [] = []
added (l ∷ ls) = newest l.value.entries ++ added ls
