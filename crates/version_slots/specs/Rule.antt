-- The rule of a cell, which holds between any two steps.
-- A slot has one place for each pass: the place of the pass n in the slot k is the table's slot k * passes + (n - 1).
use Rattle.std.specs.Prelude.{◌≡◌, ◌≢◌, ◌⊎◌, ℕ, ◌+◌, ◌*◌, ◌^◌, ◌<◌, ◌≤◌, zero, suc, List, [], length, slice_index, Option, Some, None}
use mathlib.Core.Option.{some, none}
use mathlib.Core.Option as maybe
use lib.ListN.{get_elem?}
use Rattle.atomic_table.specs.Table.{State}
use Rattle.version_slots.specs.declared.view.Line.{Line}
use Rattle.version_slots.specs.declared.view.Old.{Old}
use Rattle.version_slots.specs.declared.view.Hold.{Hold}
use Rattle.version_slots.specs.declared.view.View.{View}
use Rattle.version_slots.specs.declared.view.Hold.TheVariants.{Empty, Held, Ready, Duty}
use Rattle.version_slots.specs.Words.{head_word, Use, Gate, gate_word, pins_of, Tagged, free, held, live, retired, shown, ready, duty}
use Rattle.version_slots.specs.Histories.{StartsWith, EndsWith, lines_of, Stands, Follows, HistoryOk}
use Rattle.version_slots.specs.Views.{names, On, pins_on, pins_by}

module _ {A : Type 0} where
  -- what two seats have stays apart
  pub record Apart (v w : View A) : Type 0 where
    -- no number of the one is one of the other, but 0
    pub numbers : (i j n : ℕ) → get_elem? (names v) i ≡ some n → get_elem? (names w) j ≡ some n → n ≡ 0
    -- no number may be given away twice
    pub spares : (i j n : ℕ) → get_elem? v.spare i ≡ some n → get_elem? w.spare j ≡ some n → ⊥
    -- a number that may be given away is nobody's
    pub spare_left : (i j n : ℕ) → get_elem? v.spare i ≡ some n → get_elem? (names w) j ≡ some n → ⊥
    pub spare_right : (i j n : ℕ) → get_elem? (names v) i ≡ some n → get_elem? w.spare j ≡ some n → ⊥
    -- tickets differ, but 0
    pub tickets : v.ticket ≡ w.ticket → v.ticket ≡ 0
    -- no slot is in the hands of both
    pub holds : (slot : ℕ) → On v.hold slot → On w.hold slot → ⊥

  -- the pinned gate has the tag that the seat saw
  abbrev pub PinOk : (ℕ → Gate) → List (Line A) → Option (ℕ × ℕ) → Type 0
  PinOk gates seen None = Unit {0}
  PinOk gates seen (Some p) = (p.0 < 18) × Stands seen p.1 p.0 × Tagged (gates p.0) p.1

  module _ (follows : ℕ → A → A → Type 0) where
    -- what a seat of this number, with this ticket and this history seen, holds, the gates say too
    module _ (hist : List (Line A)) (gates : ℕ → Gate) (seat number ticket : ℕ) (seen : List (Line A)) where
      -- the ticket was drawn, and no version has it yet
      abbrev pub Unused : Type 0
      Unused = (0 < ticket) × ((i : ℕ) (l : Line A) → get_elem? hist i ≡ some l → l.ticket ≢ ticket)

      -- what the seat holds is what its gate says: the gate names the seat, and of a proposal the base has been seen and the value may follow it
      abbrev pub HoldOk : Hold A → Type 0
      HoldOk Empty = Unit {0}
      HoldOk (Held a) = (a < 18) × (gates a ≡ held seat) × Unused
      HoldOk (Ready a base value) = (a < 18) × ((pins : ℕ) × (gates a ≡ live ticket pins (ready seat))) × Unused × StartsWith seen base × Follows follows number base value
      HoldOk (Duty a) = (a < 18) × ((tag : ℕ) × (pins : ℕ) × (gates a ≡ live tag pins (duty seat)) × Stands hist tag a)

    module _ (passes next : ℕ) (hist : List (Line A)) (gates : ℕ → Gate) (seat : ℕ) where
      -- what is known of a seat that was joined into another
      pub record OldOk (o : Old A) : Type 0 where
        -- its number is one of a pass, or 0
        pub number : o.number ≤ passes
        -- what it had seen is a beginning of the history
        pub seen : StartsWith hist o.seen
        -- what it installed is its lines, and it had seen them all
        pub mine : o.number ≢ 0 → (lines_of o.number hist ≡ o.mine) × (lines_of o.number o.seen ≡ o.mine)

      -- what is known of a seat
      pub record SeatOk (v : View A) : Type 0 where
        -- it knows the number of passes, or is spent
        pub passes_is : (v.passes ≡ passes) ⊎ ((v.passes ≡ 0) × (v.number ≡ 0))
        -- its number is one of a pass, or 0
        pub number : v.number ≤ passes
        -- what it has seen is a beginning of the history
        pub seen : StartsWith hist v.seen
        -- what it installed is its lines, and it has seen them all
        pub mine : v.number ≢ 0 → (lines_of v.number hist ≡ v.mine) × (lines_of v.number v.seen ≡ v.mine)
        -- a note has installed, drawn and taken nothing
        pub note : v.number ≡ 0 → (v.mine ≡ []) × (v.ticket ≡ 0) × (v.hold ≡ Empty) × (v.pin ≡ None)
        -- its numbers differ, but 0
        pub once : (i j n : ℕ) → get_elem? (names v) i ≡ some n → get_elem? (names v) j ≡ some n → n ≢ 0 → i ≡ j
        -- of each seat that was joined into it the same is known
        pub olds : (i : ℕ) (o : Old A) → get_elem? v.olds i ≡ some o → OldOk o
        -- the numbers that it may give away are those of passes, with no line yet; they differ, and none of them is its own
        pub spare : (i n : ℕ) → get_elem? v.spare i ≡ some n → (0 < n) × (n ≤ passes) × (lines_of n hist ≡ [])
        pub spare_once : (i j n : ℕ) → get_elem? v.spare i ≡ some n → get_elem? v.spare j ≡ some n → i ≡ j
        pub spare_own : (i j n : ℕ) → get_elem? v.spare i ≡ some n → get_elem? (names v) j ≡ some n → ⊥
        -- its ticket was drawn, and only it may install with it
        pub ticket : v.ticket < next
        pub own_ticket : (i : ℕ) (l : Line A) → get_elem? hist i ≡ some l → l.ticket ≡ v.ticket → l.number ≡ v.number
        -- what it holds and pins is what the gates say
        pub hold : HoldOk hist gates seat v.number v.ticket v.seen v.hold
        pub pin : PinOk gates v.seen v.pin

  -- what stands behind a gate, where Row says of a plain value that the slot's places have it
  module _ (hist : List (Line A)) (views : List (View A)) (slot : ℕ) (Row : A → Type 0) where
    -- a version with this ticket in this slot
    abbrev pub Version : ℕ → Type 0
    Version tag = (i : ℕ) × (l : Line A) × (get_elem? hist i ≡ some l) × (l.ticket ≡ tag) × (l.slot ≡ slot) × Row l.value

    -- a Live gate is shown by the head, ready with one seat, or the duty of one seat; and the places have the value
    abbrev pub UseOk : ℕ → Use → Type 0
    UseOk tag shown = (l : Line A) × EndsWith hist l × (l.ticket ≡ tag) × (l.slot ≡ slot) × Row l.value
    UseOk tag (ready seat) = (v : View A) × (base : List (Line A)) × (value : A) × (get_elem? views seat ≡ some v) × (v.hold ≡ Ready slot base value) × (v.ticket ≡ tag) × Row value
    UseOk tag (duty seat) = (v : View A) × (get_elem? views seat ≡ some v) × (v.hold ≡ Duty slot) × Version tag

  -- the same of each gate, where Spare says that no place is empty
  module _ (hist : List (Line A)) (views : List (View A)) (slot : ℕ) (Spare : Type 0) (Row : A → Type 0) where
    -- what stands behind a gate
    abbrev pub StateOk : Gate → Type 0
    StateOk free = Spare
    StateOk (held seat) = (v : View A) × (get_elem? views seat ≡ some v) × (v.hold ≡ Held slot)
    StateOk (live tag pins role) = UseOk hist views slot Row tag role
    StateOk (retired tag pins) = Version hist views slot Row tag

  module _ {P : Type 0} (plain : P → A) (passes : ℕ) where
    -- a share of the version is at its place, or away with the one seat of its number that pins it
    abbrev pub Kept : ℕ → A → maybe.Option (maybe.Option (Option P)) → Type 0
    Kept zero value there = (p : P) × (there ≡ some (some (Some p))) × (plain p ≡ value)
    Kept (suc n) value there = there ≡ some none

    -- each place of the slot has its share of the version with this value
    abbrev pub Row : List (View A) → List (maybe.Option (Option P)) → ℕ → A → Type 0
    Row views homes slot value = (i : ℕ) → i < passes → Kept (pins_by (suc i) slot views) value (get_elem? homes (slot * passes + i))

    -- each place of the slot is at home
    abbrev pub Spare : List (maybe.Option (Option P)) → ℕ → Type 0
    Spare homes slot = (i : ℕ) → i < passes → (x : Option P) × (get_elem? homes (slot * passes + i) ≡ some (some x))

    -- a gate says by its word what it is, and by its pins how many views pin its slot
    pub record GateOk (hist : List (Line A)) (views : List (View A)) (words : List ℕ) (homes : List (maybe.Option (Option P))) (slot : ℕ) (g : Gate) : Type 0 where
      pub word : slice_index words (slot + 2) ≡ gate_word g
      pub pins : pins_of g ≡ pins_on slot views
      pub state : StateOk hist views slot (Spare homes slot) (Row views homes slot) g

module _ {P A : Type 0} (plain : P → A) (follows : ℕ → A → A → Type 0) where
  -- The rule: it holds between any two steps. There is one history, with its last line, and what each gate is
  pub record Sound (passes : ℕ) (opening : A) (s : State (Option P) (View A)) : Type 0 where
    pub hist : List (Line A)
    pub last : Line A
    pub gates : ℕ → Gate
    -- there are 20 words, and one place for each pass in each of 18 slots
    pub wide : length s.words ≡ 20
    pub deep : length s.homes ≡ 18 * passes
    -- there are 1 to 8 passes, and at most 2 ^ 46 tickets
    pub some_pass : (0 < passes) × (passes ≤ 8)
    pub tickets : slice_index s.words 1 ≤ 2 ^ 46
    -- the history is legal
    pub history : HistoryOk follows passes (slice_index s.words 1) opening hist
    -- the head is the last line's, whose gate it shows
    pub ends : EndsWith hist last
    pub head : slice_index s.words 0 ≡ head_word last.ticket last.slot
    pub shows : (pins : ℕ) × (gates last.slot ≡ live last.ticket pins shown)
    -- each seat, each two seats and each gate are as they should be
    pub each_seat : (j : ℕ) (v : View A) → get_elem? s.views j ≡ some v → SeatOk follows passes (slice_index s.words 1) hist gates j v
    pub each_pair : (i j : ℕ) (v w : View A) → i ≢ j → get_elem? s.views i ≡ some v → get_elem? s.views j ≡ some w → Apart v w
    pub each_gate : (slot : ℕ) → slot < 18 → GateOk plain passes hist s.views s.words s.homes slot (gates slot)
