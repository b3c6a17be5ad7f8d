-- The rule of a shared pool, which holds between any two steps of its seats.
use Rattle.std.specs.Prelude.{◌≡◌, ◌≢◌, ◌⊎◌, ℕ, ◌+◌, ◌*◌, ◌<◌, ◌≤◌, List, length, slice_index, Option, None}
use mathlib.Core.Option.{some}
use mathlib.Core.Option as maybe
use lib.ListN.{get_elem?}
use Rattle.atomic_table.specs.Table.{State}
use Rattle.stack_pool.specs.declared.TheConstants.{PLACES, STRIDE, MOST_TAKINGS}
use Rattle.stack_pool.specs.declared.view.Keep.{Keep}
use Rattle.stack_pool.specs.declared.view.View.{View}
use Rattle.stack_pool.specs.Views.{number_of, word_of, home_of, kept_at, counted}

-- the number is that of one of the seat's takings, the j-th
abbrev pub Came : ℕ → ℕ → ℕ → Type 0
Came seat takings n = (j : ℕ) × (n ≡ STRIDE * j + seat) × (0 < j) × (j ≤ takings)

module _ {S : Type 0} where
  -- the place is as this seat keeps it
  pub record KeepOk (words : List ℕ) (homes : List (maybe.Option (Option S)))
      (seat takings place : ℕ) (k : Keep S) : Type 0 where
    pub near : seat < STRIDE
    pub came : Came seat takings (number_of k)
    pub word : slice_index words place ≡ word_of k
    pub home : get_elem? homes place ≡ some (home_of k)

  -- each place that the seat keeps is so, and no number of it stands at two places
  pub record SeatOk (words : List ℕ) (homes : List (maybe.Option (Option S)))
      (v : View S) : Type 0 where
    pub number : v.number ≤ STRIDE
    pub takings : v.takings ≤ MOST_TAKINGS
    pub kept : (place : ℕ) → number_of (kept_at v.kept place) ≢ 0
        → KeepOk words homes v.number v.takings place (kept_at v.kept place)
    pub differ : (p q : ℕ) → number_of (kept_at v.kept p) ≡ number_of (kept_at v.kept q)
        → number_of (kept_at v.kept p) ≢ 0 → p ≡ q

  -- the place is nobody's, or some seat keeps it
  abbrev pub PlaceOk : List ℕ → List (maybe.Option (Option S)) → List (View S) → ℕ → Type 0
  PlaceOk words homes views place =
      ((slice_index words place ≡ 0) × (get_elem? homes place ≡ some (some None)))
      ⊎ ((j : ℕ) × (v : View S) × (get_elem? views j ≡ some v)
      × (number_of (kept_at v.kept place) ≢ 0))

  -- no number below STRIDE is two seats', and only those below the count of seats are a seat's
  pub record SoundPool (seats : ℕ) (s : State (Option S) (View S)) : Type 0 where
    pub some_seat : (0 < seats) × (seats ≤ 8)
    pub wide : length s.words ≡ seats * PLACES
    pub deep : length s.homes ≡ seats * PLACES
    pub once : (n : ℕ) → n < STRIDE → counted n s.views ≤ 1
    pub given : (n : ℕ) → seats ≤ n → n < STRIDE → counted n s.views ≡ 0
    pub each_seat : (j : ℕ) (v : View S) → get_elem? s.views j ≡ some v → SeatOk s.words s.homes v
    pub each_place : (place : ℕ) → place < seats * PLACES → PlaceOk s.words s.homes s.views place
