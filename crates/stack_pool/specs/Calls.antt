-- What the calls on a shared pool find and do. v is what the seat knew before the call, w what it
-- knows after.
use Rattle.std.specs.Prelude.{◌≡◌, ◌≢◌, ◌⊎◌, ℕ, ◌+◌, ◌*◌, ◌/◌, ◌^◌, ◌<◌, ◌==◌, cond, suc, List, [], ◌∷◌, ◌++◌, length, slice_set, All, ◌%◌, ◌≤◌, Option, Some, None}
use mathlib.Core.Option.{some}
use lib.ListN.{get_elem?}
use Rattle.stack_pool.specs.declared.TheConstants.{PLACES, STRIDE, MOST_TAKINGS}
use Rattle.stack_pool.specs.declared.view.Kind.TheVariants.{Probe, Take, Back, Hold, Clear}
use Rattle.stack_pool.specs.declared.view.Found.{Found}
use Rattle.stack_pool.specs.declared.view.Keep.{Keep}
use Rattle.stack_pool.specs.declared.view.Keep.TheVariants.{Nothing, Home, Lent}
use Rattle.stack_pool.specs.declared.view.View.{View}
use Rattle.stack_pool.specs.declared.fault.Owner.{Owner}
use Rattle.stack_pool.specs.declared.fault.PoolFault.{PoolFault}
use Rattle.stack_pool.specs.declared.fault.PoolFault.TheVariants.{PoolFull, Disposed, Busy, NoNumber}
use Rattle.stack_pool.specs.Views.{word_of, kept_at, number_at, next_number, kept_count, IsHome}
use Rattle.stack_pool.specs.Steps.{found}

-- each element of the list, with its place, is so
abbrev pub EachAt : {B : Type 0} → (ℕ → B → Type 0) → List B → Type 0
EachAt {B} fact xs = (k : ℕ) (x : B) → get_elem? xs k ≡ some x → fact k x

-- the number that a place's word has, if it has one
abbrev pub owner_in : ℕ → Option ℕ
owner_in word = cond (word / 2 == 0) None (Some (word / 2))

-- a word of a place that is not free
abbrev pub HasOwner : ℕ → Type 0
HasOwner word = word ≢ 0

-- The steps of the calls

-- one look at each place from this one on, which found these words
abbrev pub probe_steps : ℕ → List ℕ → List Found
probe_steps place [] = []
probe_steps place (word ∷ words) = found Probe place word ∷ probe_steps (suc place) words

-- a free place is taken, and gets its content
abbrev pub take_steps : ℕ → ℕ → List Found
take_steps place number = found Take place 0 ∷ found Back place (number * 2 + 1) ∷ []

-- a content is lent
abbrev pub hold_steps : ℕ → ℕ → List Found
hold_steps place number =
    found Probe place (number * 2) ∷ found Hold place (number * 2) ∷ found Probe place
    (number * 2 + 1) ∷ []

-- it comes back
abbrev pub release_steps : ℕ → ℕ → List Found
release_steps place number = found Probe place (number * 2 + 1) ∷ found Back place
    (number * 2 + 1) ∷ []

-- a place becomes free
abbrev pub give_back_steps : ℕ → ℕ → List Found
give_back_steps place number =
    found Probe place (number * 2) ∷ found Hold place (number * 2) ∷ found Clear place
    (number * 2 + 1) ∷ []

module _ {S : Type 0} where
  -- the seat can step on the place
  abbrev pub Placed : ℕ → ℕ → ℕ → View S → Type 0
  Placed words seats place v =
      (words ≡ seats * PLACES) × (place < words) × (length v.kept ≡ words) × (v.number < STRIDE)

  -- the seat and its pool have this number and these places
  abbrev pub Seated : ℕ → ℕ → ℕ → ℕ → View S → Type 0
  Seated words seats places seat v =
      (words ≡ seats * PLACES) × (places ≡ words) × (length v.kept ≡ words) × (v.number ≡ seat)
      × (seat < STRIDE)

  -- the seat keeps the place so, after these steps
  abbrev pub kept_as : View S → ℕ → Keep S → List Found → View S
  kept_as v place k fs = record v { kept = slice_set v.kept place k; found = v.found ++ fs }

  -- the same under its next number
  abbrev pub taken_as : View S → ℕ → Keep S → List Found → View S
  taken_as v place k fs = record v {
    kept = slice_set v.kept place k;
    takings = v.takings + 1;
    found = v.found ++ fs;
  }

  abbrev pub found_more : View S → List Found → View S
  found_more v fs = record v { found = v.found ++ fs }

  -- The conditions

  -- where the seat keeps the place with the number, no caller has its content
  abbrev pub NotLent : View S → Owner → Type 0
  NotLent v owner = owner.number ≢ 0 → number_at v owner.place ≡ owner.number
      → IsHome (kept_at v.kept owner.place)

  -- no caller has a content of the seat
  abbrev pub NoneLent : View S → Type 0
  NoneLent v = (place : ℕ) → number_at v place ≢ 0 → IsHome (kept_at v.kept place)

  -- a caller has the content of the place that the seat keeps with the number
  abbrev pub LentTo : View S → Owner → Type 0
  LentTo v owner = kept_at v.kept owner.place ≡ Lent owner.number

  abbrev pub KeepsNothing : View S → Type 0
  KeepsNothing v = (place : ℕ) → number_at v place ≡ 0

  -- The answers

  -- each of so many places was found owned by a step of the call
  abbrev pub FoundOwned : ℕ → View S → View S → Type 0
  FoundOwned places v w =
      (words : List ℕ) × (length words ≡ places) × All HasOwner words
      × (w ≡ found_more v (probe_steps 0 words))

  -- the first place that a step found free is the seat's, with the content and the seat's next
  -- number
  abbrev pub IsTaken : View S → View S → Owner → S → Type 0
  IsTaken v w owner content =
      (words : List ℕ) × (length words ≡ owner.place) × All HasOwner words
      × (v.takings < MOST_TAKINGS)
      × (owner.number ≡ next_number v) × (number_at v owner.place ≡ 0)
      × (w ≡ taken_as (found_more v (probe_steps 0 words)) owner.place (Home owner.number content)
      (take_steps owner.place owner.number))

  -- why a taking is refused: by the seat's count of takings, or by the places that it owns, or by
  -- what it found at each place
  abbrev pub TakeRefused : ℕ → View S → View S → PoolFault → Type 0
  TakeRefused places v w NoNumber = (v.takings ≡ MOST_TAKINGS) × (w ≡ v)
  TakeRefused places v w PoolFull =
      (v.takings ≢ MOST_TAKINGS) × (((kept_count v.kept ≡ PLACES)
      × (w ≡ v)) ⊎ FoundOwned places v w)
  TakeRefused places v w (Disposed holder) = ⊥
  TakeRefused places v w (Busy number) = ⊥

  -- the seat lends the content of the handle's place
  abbrev pub IsHeld : View S → View S → Owner → S → Type 0
  IsHeld v w owner content =
      (kept_at v.kept owner.place ≡ Home owner.number content)
      × (w ≡ kept_as v owner.place (Lent owner.number) (hold_steps owner.place owner.number))

  -- the content is at home again, at the handle's place
  abbrev pub IsReleased : View S → View S → Owner → S → Type 0
  IsReleased v w owner content =
      w ≡ kept_as v owner.place (Home owner.number content) (release_steps owner.place owner.number)

  -- the handle's place is nobody's, and this was its content
  abbrev pub IsGivenBack : View S → View S → Owner → S → Type 0
  IsGivenBack v w owner content =
      (kept_at v.kept owner.place ≡ Home owner.number content)
      × (w ≡ kept_as v owner.place Nothing (give_back_steps owner.place owner.number))

  -- a look at the handle's place found that it is the handle's, and it is this seat's
  abbrev pub IsMine : ℕ → View S → View S → Owner → ℕ → Type 0
  IsMine places v w owner word =
      (owner.number ≢ 0) × (owner.place < places) × (number_at v owner.place ≡ owner.number)
      × (word ≡ word_of (kept_at v.kept owner.place))
      × (w ≡ found_more v (found Probe owner.place word ∷ []))

  -- the seat does not keep the handle's place with its number
  abbrev pub NotMine : View S → Owner → Type 0
  NotMine v owner = owner.number ≢ 0 → number_at v owner.place ≢ owner.number

  -- the place is not the seat's own, and this is what a step of the call found there, or that there
  -- is no such place
  abbrev pub Refused : ℕ → View S → View S → Owner → PoolFault → Type 0
  Refused places v w owner PoolFull = ⊥
  Refused places v w owner NoNumber = ⊥
  Refused places v w owner (Disposed holder) =
      NotMine v owner
      × (((holder ≡ None) × (places ≤ owner.place) × (w ≡ v))
      ⊎ ((owner.place < places) × (holder ≢ Some owner.number)
      × ((word : ℕ) × (holder ≡ owner_in word)
      × (w ≡ found_more v (found Probe owner.place word ∷ [])))))
  Refused places v w owner (Busy number) =
      NotMine v owner × (number ≡ owner.number) × (number % STRIDE ≢ v.number)
      × (owner.place < places)
      × ((word : ℕ) × (owner_in word ≡ Some owner.number)
      × (w ≡ found_more v (found Probe owner.place word ∷ [])))

  -- the seat is as wide as before, has its number and this count of takings, and owns so many
  -- places
  pub record Counts (v w : View S) (takings owned : ℕ) : Type 0 where
    pub wide : length w.kept ≡ length v.kept
    pub number : w.number ≡ v.number
    pub takings_are : w.takings ≡ takings
    pub owned_are : kept_count w.kept ≡ owned

  -- it owns as many as before, and has as many takings
  abbrev pub SameCounts : View S → View S → Type 0
  SameCounts v w = Counts v w v.takings (kept_count v.kept)
