-- Histories of versions. A history is a list of lines; what has been seen of it is a beginning.
use Rattle.std.specs.Prelude.{◌≡◌, ℕ, ◌<◌, ◌≤◌, ◌==◌, ◌&&◌, cond, suc, List, [], ◌∷◌, ◌++◌, filter}
use mathlib.Core.Option.{some}
use lib.ListN.{get_elem?}
use Rattle.version_slots.specs.declared.view.Line.{Line}

module _ {A : Type 0} where
  -- the history begins with this part
  abbrev pub StartsWith : List (Line A) → List (Line A) → Type 0
  StartsWith whole part = (rest : List (Line A)) × (whole ≡ part ++ rest)

  -- the history ends with this line
  abbrev pub EndsWith : List (Line A) → Line A → Type 0
  EndsWith whole last = (before : List (Line A)) × (whole ≡ before ++ last ∷ [])

  -- the lines that the pass of this number installed
  abbrev pub lines_of : ℕ → List (Line A) → List (Line A)
  lines_of number = filter (λ (l : Line A). l.number == number)

  -- a line of the history has this ticket and this slot
  abbrev pub Stands : List (Line A) → ℕ → ℕ → Type 0
  Stands hist ticket slot = (i : ℕ) × (l : Line A) × (get_elem? hist i ≡ some l) × (l.ticket ≡ ticket) × (l.slot ≡ slot)

  -- and it has this value
  abbrev pub Shown : List (Line A) → ℕ → ℕ → A → Type 0
  Shown hist ticket slot value = (i : ℕ) × (l : Line A) × (get_elem? hist i ≡ some l) × (l.ticket ≡ ticket) × (l.slot ≡ slot) × (l.value ≡ value)

  -- the history up to the line with this ticket and this slot
  abbrev pub upto : ℕ → ℕ → List (Line A) → List (Line A)
  upto ticket slot [] = []
  upto ticket slot (l ∷ ls) = l ∷ cond ((l.ticket == ticket) && (l.slot == slot)) [] (upto ticket slot ls)

  -- every ticket of these lines is below this one
  abbrev pub Above : List (Line A) → ℕ → Type 0
  Above lines ticket = (i : ℕ) (l : Line A) → get_elem? lines i ≡ some l → l.ticket < ticket

  -- the version that a cell begins with: the number 0, the ticket 1 and the slot 0 are its own
  abbrev pub first_line : A → Line A
  first_line x = record { number = 0; ticket = 1; slot = 0; value = x }

  -- no two lines have one ticket
  abbrev pub TicketsDiffer : List (Line A) → Type 0
  TicketsDiffer hist = (i j : ℕ) (l m : Line A) → get_elem? hist i ≡ some l → get_elem? hist j ≡ some m → l.ticket ≡ m.ticket → i ≡ j

  -- the position of each version is its index, and a ticket names one line
  abbrev pub Placed : (A → ℕ) → List (Line A) → Type 0
  Placed position_of hist = ((i : ℕ) (l : Line A) → get_elem? hist i ≡ some l → position_of l.value ≡ i) × TicketsDiffer hist

  module _ (follows : ℕ → A → A → Type 0) where
    -- the value may be installed on this base by the pass with this number
    abbrev pub Follows : ℕ → List (Line A) → A → Type 0
    Follows number base value = (l : Line A) × EndsWith base l × follows number l.value value

    -- each version but the first follows the one before it
    abbrev pub Linked : List (Line A) → Type 0
    Linked hist = (i : ℕ) (l m : Line A) → get_elem? hist i ≡ some l → get_elem? hist (suc i) ≡ some m → follows m.number l.value m.value

    -- the history of a cell that began with the value `opening`, where `next` is the next ticket
    pub record HistoryOk (passes next : ℕ) (opening : A) (hist : List (Line A)) : Type 0 where
      -- it begins with the first version
      pub opens : get_elem? hist 0 ≡ some (first_line opening)
      -- each other line has the number of a pass
      pub numbered : (i : ℕ) (l : Line A) → get_elem? hist (suc i) ≡ some l → (0 < l.number) × (l.number ≤ passes)
      -- its tickets were drawn
      pub below : (i : ℕ) (l : Line A) → get_elem? hist i ≡ some l → (0 < l.ticket) × (l.ticket < next) × (l.slot < 18)
      -- no two lines have one ticket
      pub differ : TicketsDiffer hist
      -- each line may follow the one before it
      pub linked : (i : ℕ) (l m : Line A) → get_elem? hist i ≡ some l → get_elem? hist (suc i) ≡ some m → follows m.number l.value m.value
