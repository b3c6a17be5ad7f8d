-- What a seat of a shared pool knows, and how that begins, is handed on and ends.
use Rattle.std.specs.Prelude.{◌≡◌, ◌≢◌, ℕ, ◌+◌, ◌*◌, ◌==◌, ◌-◌, cond, zero, suc, List, [], ◌∷◌, ◌++◌, slice_index_or, replicate, Option, Some, None}
use mathlib.Core.Option.{some, none}
use mathlib.Core.Option as maybe
use Rattle.stack_pool.specs.declared.TheConstants.{PLACES, STRIDE}
use Rattle.stack_pool.specs.declared.view.Keep.{Keep}
use Rattle.stack_pool.specs.declared.view.Keep.TheVariants.{Nothing, Home, Out, Lent}
use Rattle.stack_pool.specs.declared.view.View.{View}

-- how often a number stands in a list
abbrev pub times : ℕ → List ℕ → ℕ
times n [] = 0
times n (x ∷ xs) = cond (x == n) 1 0 + times n xs

abbrev pub head_or : ℕ → List ℕ → ℕ
head_or d [] = d
head_or d (x ∷ xs) = x

abbrev pub tail : List ℕ → List ℕ
tail [] = []
tail (x ∷ xs) = xs

-- n numbers from this one on
abbrev pub counting : ℕ → ℕ → List ℕ
counting from zero = []
counting from (suc n) = from ∷ counting (suc from) n

-- how many places a pool of so many seats has
abbrev pub place_count : ℕ → ℕ
place_count seats = seats * PLACES

module _ {S : Type 0} where
  -- the number with which a place is kept, or 0
  abbrev pub number_of : Keep S → ℕ
  number_of Nothing = 0
  number_of (Home n x) = n
  number_of (Out n) = n
  number_of (Lent n) = n

  -- the word of a place that is kept so: twice its number, and one more where its content is out
  abbrev pub word_of : Keep S → ℕ
  word_of Nothing = 0
  word_of (Home n x) = n * 2
  word_of (Out n) = n * 2 + 1
  word_of (Lent n) = n * 2 + 1

  -- what is at home at a place that is kept so
  abbrev pub home_of : Keep S → maybe.Option (Option S)
  home_of Nothing = some None
  home_of (Home n x) = some (Some x)
  home_of (Out n) = none
  home_of (Lent n) = some None

  abbrev pub kept_at : List (Keep S) → ℕ → Keep S
  kept_at kept place = slice_index_or kept place Nothing

  -- how many of the places are kept
  abbrev pub kept_count : List (Keep S) → ℕ
  kept_count [] = 0
  kept_count (k ∷ ks) = cond (number_of k == 0) 0 1 + kept_count ks

  -- the number with which the seat keeps the place, or 0
  abbrev pub number_at : View S → ℕ → ℕ
  number_at v place = number_of (kept_at v.kept place)

  -- the number of the seat's next taking
  abbrev pub next_number : View S → ℕ
  next_number v = STRIDE * (v.takings + 1) + v.number

  -- what a seat may keep at a place: its slot is in the seat's hand, its content is with a caller,
  -- or is at home
  abbrev pub IsOut : Keep S → Type 0
  IsOut k = (k ≡ Out (number_of k)) × (number_of k ≢ 0)

  abbrev pub IsLent : Keep S → Type 0
  IsLent k = (k ≡ Lent (number_of k)) × (number_of k ≢ 0)

  abbrev pub IsHome : Keep S → Type 0
  IsHome k = ((x : S) × (k ≡ Home (number_of k) x)) × (number_of k ≢ 0)

  -- the same places, none of them kept
  abbrev pub blank : List (Keep S) → List (Keep S)
  blank [] = []
  blank (k ∷ ks) = Nothing ∷ blank ks

  -- how often the number is the view's own, one to give away or one of a joined seat
  abbrev pub names : ℕ → View S → ℕ
  names n v = times n (v.number ∷ v.spare) + times n v.olds

  abbrev pub counted : ℕ → List (View S) → ℕ
  counted n [] = 0
  counted n (v ∷ vs) = names n v + counted n vs

  -- the first seat of a pool of so many seats may give all the other numbers away
  abbrev pub first_view : ℕ → View S
  first_view seats = record {
    number = 0;
    spare = counting 1 (seats - 1);
    olds = [];
    takings = 0;
    kept = replicate (seats * PLACES) Nothing;
    found = [];
  }

  -- a new seat has the first number that was to be given away, and may give away the others
  abbrev pub dealt : View S → View S
  dealt v = record {
    number = head_or STRIDE v.spare;
    spare = tail v.spare;
    olds = [];
    takings = 0;
    kept = blank v.kept;
    found = [];
  }

  abbrev pub dealing : View S → View S
  dealing v = record v { spare = [] }

  -- a seat after another one was joined into it
  abbrev pub joined : View S → View S → View S
  joined v w = record v { olds = v.olds ++ w.number ∷ w.spare ++ w.olds }

  -- a seat that was joined into another one: its number is no seat's
  abbrev pub spent : View S
  spent = record { number = STRIDE; spare = []; olds = []; takings = 0; kept = []; found = [] }

  -- the seat of this number in a new pool of so many seats
  abbrev pub new_view : ℕ → ℕ → View S
  new_view seats number = record {
    number = number;
    spare = [];
    olds = [];
    takings = 0;
    kept = replicate (seats * PLACES) Nothing;
    found = [];
  }
