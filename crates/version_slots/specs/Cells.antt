-- What the passes of a new cell know, and what a cell ends with.
use Rattle.std.specs.Prelude.{◌≡◌, ℕ, suc, ◌<◌, ◌≤◌, List, ◌∷◌, map, None}
use mathlib.Core.Option.{some}
use lib.ListN.{get_elem?}
use Rattle.version_slots.specs.declared.view.Line.{Line}
use Rattle.version_slots.specs.declared.view.Old.{Old}
use Rattle.version_slots.specs.declared.view.Hold.TheVariants.{Empty}
use Rattle.version_slots.specs.declared.view.View.{View}
use Rattle.version_slots.specs.declared.tokens.Front.{Front}
use Rattle.version_slots.specs.Histories.{EndsWith, StartsWith, lines_of, first_line}
use Rattle.version_slots.specs.Views.{first_view, newcomer, counting, old}

module _ {A : Type 0} where
  -- a pass that has seen the first version, and has done nothing
  abbrev pub new_view : ℕ → A → ℕ → View A
  new_view passes first number = newcomer number (first_view passes first)

  -- what the passes of a new cell know, in the order of their numbers
  abbrev pub new_views : ℕ → A → List (View A)
  new_views passes first = map (new_view passes first) (counting 1 passes)

  -- nothing is proposed or pinned
  abbrev pub IsIdle : View A → Type 0
  IsIdle v = (v.hold ≡ Empty) × (v.pin ≡ None)

  -- among these passes is one of each number
  abbrev pub AreAll : ℕ → List (View A) → Type 0
  AreAll passes views = (number : ℕ) → 0 < number → number ≤ passes → (i : ℕ) × (v : View A) × (get_elem? views i ≡ some v) × (v.number ≡ number)

  -- what a seat has of itself, and of each seat that was joined into it
  abbrev pub olds_of : View A → List (Old A)
  olds_of v = old v ∷ v.olds

  -- what each of these passes has is there
  abbrev pub AreIn : List (View A) → List (Old A) → Type 0
  AreIn views olds = (i : ℕ) (v : View A) → get_elem? views i ≡ some v → (j : ℕ) × (get_elem? olds j ≡ some (old v))

  -- What a cell that began with the value `first` ends with, where these are its passes: the front and the value of the last version of one history
  pub record EndsAs (follows : ℕ → A → A → Type 0) (first : A) (views : List (View A)) (front : Front) (value : A) : Type 0 where
    pub hist : List (Line A)
    pub last : Line A
    -- the history begins with the first version, and each version follows the one before it
    pub opens : get_elem? hist 0 ≡ some (first_line first)
    pub linked : (i : ℕ) (l m : Line A) → get_elem? hist i ≡ some l → get_elem? hist (suc i) ≡ some m → follows m.number l.value m.value
    -- its last version is the one that is answered
    pub ends : EndsWith hist last
    pub front_is : front ≡ record { ticket = last.ticket; slot = last.slot }
    pub value_is : value ≡ last.value
    -- what each pass had seen is a beginning of it
    pub seen : (i : ℕ) (v : View A) → get_elem? views i ≡ some v → StartsWith hist v.seen
    -- its lines of a pass's number are those that the pass installed
    pub mine : (i : ℕ) (v : View A) → get_elem? views i ≡ some v → lines_of v.number hist ≡ v.mine
    -- each line but the first has the number of one of the passes
    pub numbered : (i : ℕ) (l : Line A) → get_elem? hist (suc i) ≡ some l → (j : ℕ) × (v : View A) × (get_elem? views j ≡ some v) × (v.number ≡ l.number)
