-- What a seat knows of a cell, and how it changes as seats are cut in two and joined.
use Rattle.std.specs.Prelude.{◌≡◌, ℕ, ◌+◌, ◌==◌, ◌-◌, cond, zero, suc, List, [], ◌∷◌, ◌++◌, map, Option, Some, None}
use Rattle.version_slots.specs.declared.view.Line.{Line}
use Rattle.version_slots.specs.declared.view.Old.{Old}
use Rattle.version_slots.specs.declared.view.Hold.{Hold}
use Rattle.version_slots.specs.declared.view.View.{View}
use Rattle.version_slots.specs.declared.view.Hold.TheVariants.{Empty, Held, Ready, Duty}
use Rattle.version_slots.specs.Histories.{first_line}

-- 1 where this pin is one of the slot
abbrev pub pin_on : ℕ → Option (ℕ × ℕ) → ℕ
pin_on slot None = 0
pin_on slot (Some p) = cond (p.0 == slot) 1 0

-- the first number, if there is one
abbrev pub head_or : ℕ → List ℕ → ℕ
head_or d [] = d
head_or d (x ∷ xs) = x

-- the others
abbrev pub tail : List ℕ → List ℕ
tail [] = []
tail (x ∷ xs) = xs

-- n numbers from this one on
abbrev pub counting : ℕ → ℕ → List ℕ
counting from zero = []
counting from (suc n) = from ∷ counting (suc from) n

module _ {A : Type 0} where
  -- the numbers that a seat has: its own, and those of the seats that were joined into it
  abbrev pub names : View A → List ℕ
  names v = v.number ∷ map (λ (o : Old A). o.number) v.olds

  -- the hold is one of this slot
  abbrev pub On : Hold A → ℕ → Type 0
  On Empty slot = ⊥
  On (Held a) slot = a ≡ slot
  On (Ready a base value) slot = a ≡ slot
  On (Duty a) slot = a ≡ slot

  -- how many views pin the slot
  abbrev pub pins_on : ℕ → List (View A) → ℕ
  pins_on slot [] = 0
  pins_on slot (v ∷ vs) = pin_on slot v.pin + pins_on slot vs

  -- 1 where the view has this number and pins the slot
  abbrev pub pin_by : ℕ → ℕ → View A → ℕ
  pin_by number slot v = cond (v.number == number) (pin_on slot v.pin) 0

  -- how many views with this number pin the slot
  abbrev pub pins_by : ℕ → ℕ → List (View A) → ℕ
  pins_by number slot [] = 0
  pins_by number slot (v ∷ vs) = pin_by number slot v + pins_by number slot vs

  -- the first seat: it has the number 1, and may give away the others
  abbrev pub first_view : ℕ → A → View A
  first_view passes x = record { number = 1; passes = passes; seen = first_line x ∷ []; mine = []; ticket = 0; hold = Empty; pin = None; found = []; spare = counting 2 (passes - 1); olds = [] }

  -- a new seat, which has seen what this one has
  abbrev pub newcomer : ℕ → View A → View A
  newcomer number v = record { number = number; passes = v.passes; seen = v.seen; mine = []; ticket = 0; hold = Empty; pin = None; found = []; spare = []; olds = [] }

  -- a new seat, which has the first number that this one may give away
  abbrev pub dealt : View A → View A
  dealt v = newcomer (head_or 0 v.spare) v

  -- what is left to give away
  abbrev pub dealing : View A → View A
  dealing v = record v { spare = tail v.spare }

  -- the version that this seat installs
  abbrev pub line_of : View A → ℕ → A → Line A
  line_of v slot value = record { number = v.number; ticket = v.ticket; slot = slot; value = value }

  -- what a seat that is joined into another leaves there
  abbrev pub old : View A → Old A
  old v = record { number = v.number; seen = v.seen; mine = v.mine }

  -- the seat takes in the other, and has what it knows among its olds
  abbrev pub joined : View A → View A → View A
  joined v w = record v { olds = v.olds ++ old w ∷ w.olds }

  -- what a spent seat is left with
  abbrev pub spent : View A
  spent = record { number = 0; passes = 0; seen = []; mine = []; ticket = 0; hold = Empty; pin = None; found = []; spare = []; olds = [] }
