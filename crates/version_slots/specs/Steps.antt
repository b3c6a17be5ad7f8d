-- What each kind of step tells the seat that makes it, of the word that it found: what it is allowed to do is the rule's, `Sound`.
use Rattle.std.specs.Prelude.{Bool, true, false, ◌≡◌, ◌≢◌, ℕ, ◌+◌, ◌*◌, ◌/◌, ◌%◌, ◌^◌, ◌<◌, ◌≤◌, ◌-◌, zero, suc, List, [], ◌∷◌, ◌++◌, map, length, Option, Some, None}
use mathlib.Core.Option.{some}
use lib.ListN.{get_elem?}
use Rattle.atomic_table.specs.Table.{Me, Step, rest}
use Rattle.version_slots.specs.declared.view.Line.{Line}
use Rattle.version_slots.specs.declared.view.Old.{Old}
use Rattle.version_slots.specs.declared.view.View.{View}
use Rattle.version_slots.specs.declared.view.Found.{Found}
use Rattle.version_slots.specs.declared.view.Kind.{Kind}
use Rattle.version_slots.specs.declared.view.Hold.TheVariants.{Empty, Held, Ready, Duty}
use Rattle.version_slots.specs.declared.view.Kind.TheVariants.{Look, Scan, Draw, Claim, Publish, Withdraw, Win, Lose, Retire, Enter, Leave}
use Rattle.version_slots.specs.Words.{head_word}
use Rattle.version_slots.specs.Histories.{StartsWith, EndsWith, lines_of, Above, Placed, Linked}
use Rattle.version_slots.specs.Views.{line_of}

-- a seat: its view, and the places that it has in hand
abbrev pub Sat : Type 0 → Type 0 → Type 0
Sat P A = Me (Option P) (View A)

-- one step, for the list of what a seat found
abbrev pub found : Kind → ℕ → ℕ → Found
found kind place word = record { kind = kind; place = place; word = word }

-- the whole history was seen: it begins with all that the seat, and each seat that was joined into it, had seen, and the head is its last line's
abbrev pub Sees : {A : Type 0} → (A → ℕ) → (ℕ → A → A → Type 0) → View A → ℕ → List (Line A) → Type 0
Sees {A} position_of follows v word hist = StartsWith hist v.seen × ((i : ℕ) (o : Old A) → get_elem? v.olds i ≡ some o → StartsWith hist o.seen)
    × ((l : Line A) × EndsWith hist l × (l.ticket < 2 ^ 46) × (l.slot < 18) × (word ≡ head_word l.ticket l.slot)) × (v.number ≢ 0 → lines_of v.number hist ≡ v.mine)
    × Placed position_of hist × Linked follows hist

-- What a seat has in hand: the places from this one on, the first on top
abbrev pub row_on : {S : Type 0} → ℕ → List S → List (ℕ × S) → List (ℕ × S)
row_on at [] c = c
row_on at (x ∷ xs) c = (at, x) ∷ row_on (suc at) xs c

-- the hand without its first n
abbrev pub fewer : {S : Type 0} → ℕ → List (ℕ × S) → List (ℕ × S)
fewer zero c = c
fewer (suc n) c = fewer n (rest c)

-- where a seat pins, its hand has one place behind what it claimed
abbrev pub Behind : {S : Type 0} → Bool → List (ℕ × S) → Type 0
Behind {S} false c = c ≡ []
Behind {S} true c = (x : ℕ × S) × (c ≡ x ∷ [])

-- each of these is this plain value
abbrev pub AllAre : {P A : Type 0} → (P → A) → A → List P → Type 0
AllAre {P} plain value ys = (i : ℕ) (y : P) → get_elem? ys i ≡ some y → plain y ≡ value

module _ {P A : Type 0} where
  -- the head was loaded, and the whole history seen
  abbrev pub looked : (A → ℕ) → (ℕ → A → A → Type 0) → Step (Option P) → Sat P A → ℕ → Sat P A → Type 0
  looked position_of follows st m word m' = (m'.1 ≡ m.1) × ((hist : List (Line A)) × Sees position_of follows m.0 word hist × (m'.0 ≡ record m.0 { seen = hist; found = m.0.found ++ found Look 0 word ∷ [] }))

  -- the word of a gate has few pins, and that of the next ticket is at most 2 ^ 46
  abbrev pub scanned : Step (Option P) → Sat P A → ℕ → Sat P A → Type 0
  scanned st m word m' = (m'.1 ≡ m.1) × ((2 ≤ st.word → st.word < 20 → word % 262144 < 36) × (st.word ≡ 1 → word ≤ 2 ^ 46)) × (m'.0 ≡ record m.0 { found = m.0.found ++ found Scan st.word word ∷ [] })

  -- the next ticket is the seat's own, where it was the one expected, and is above those that the seat installed with
  abbrev pub drew : Step (Option P) → Sat P A → ℕ → Sat P A → Type 0
  drew st m word m' = (m'.1 ≡ m.1)
      × (word ≡ st.first → (0 < word) × Above m.0.mine word × (m'.0 ≡ record m.0 { ticket = word; found = m.0.found ++ found Draw 1 word ∷ [] }))
      × (word ≢ st.first → m'.0 ≡ record m.0 { found = m.0.found ++ found Scan 1 word ∷ [] })

  -- the gate is the seat's, and what was in the slot's places lies in its hand
  abbrev pub claimed : Step (Option P) → Sat P A → ℕ → Sat P A → Type 0
  claimed st m word m' = (slot passes : ℕ) → st.word ≡ slot + 2 → 18 * passes ≡ st.slots
      → (word ≡ st.first → ((xs : List (Option P)) × (length xs ≡ passes) × (m'.1 ≡ row_on (slot * passes) xs m.1)) × (m'.0 ≡ record m.0 { hold = Held slot; found = m.0.found ++ found Claim st.word word ∷ [] }))
      × (word ≢ st.first → (m'.1 ≡ m.1) × (m'.0 ≡ record m.0 { found = m.0.found ++ found Scan st.word word ∷ [] }))

  -- what was in the seat's hand lies in the slot's places, as its proposal on this base; the gate was Held
  abbrev pub published : (P → A) → List (Line A) → Step (Option P) → Sat P A → ℕ → Sat P A → Type 0
  published plain base st m word m' = (slot passes at : ℕ) (y : P) (more : List (ℕ × Option P)) → st.word ≡ slot + 2 → 18 * passes ≡ st.slots → m.1 ≡ (at, Some y) ∷ more
      → (word ≡ 1) × (m'.1 ≡ fewer passes m.1) × (m'.0 ≡ record m.0 { hold = Ready slot base (plain y); found = m.0.found ++ found Publish st.word word ∷ [] })

  -- the proposal's shares lie in the seat's hand again
  abbrev pub withdrew : (P → A) → Step (Option P) → Sat P A → ℕ → Sat P A → Type 0
  withdrew plain st m word m' = (slot passes : ℕ) (base : List (Line A)) (value : A) → 18 * passes ≡ st.slots → m.0.hold ≡ Ready slot base value
      → ((ys : List P) × (length ys ≡ passes) × AllAre plain value ys × (m'.1 ≡ row_on (slot * passes) (map Some ys) m.1))
      × (word ≡ m.0.ticket * 262144 + 2) × (m'.0 ≡ record m.0 { hold = Held slot; found = m.0.found ++ found Withdraw st.word word ∷ [] })

  -- the seat has no slot
  abbrev pub freed : Step (Option P) → Sat P A → ℕ → Sat P A → Type 0
  freed st m word m' = (passes : ℕ) → 18 * passes ≡ st.slots
      → (word ≡ 1) × (m'.1 ≡ fewer passes m.1) × (m'.0 ≡ record m.0 { hold = Empty; found = m.0.found ++ found Withdraw st.word word ∷ [] })

  -- where the head was the base's, the proposal is the version after it, and the old version's gate is the seat's to retire; else the head was seen
  abbrev pub won : (A → ℕ) → (ℕ → A → A → Type 0) → Step (Option P) → Sat P A → ℕ → Sat P A → Type 0
  won position_of follows st m word m' = (m'.1 ≡ m.1) × ((slot : ℕ) (base : List (Line A)) (value : A) → m.0.hold ≡ Ready slot base value
      → (word ≡ st.first → ((l : Line A) × EndsWith base l × (m'.0 ≡ record m.0 {
        seen = base ++ line_of m.0 slot value ∷ [];
        mine = m.0.mine ++ line_of m.0 slot value ∷ [];
        hold = Duty l.slot;
        found = m.0.found ++ found Win 0 word ∷ [];
      })) × Placed position_of (base ++ line_of m.0 slot value ∷ []) × (lines_of m.0.number (base ++ line_of m.0 slot value ∷ []) ≡ m.0.mine ++ line_of m.0 slot value ∷ []) × Linked follows (base ++ line_of m.0 slot value ∷ []))
      × (word ≢ st.first → (hist : List (Line A)) × StartsWith hist base × (length base < length hist) × Sees position_of follows m.0 word hist × (m'.0 ≡ record m.0 { seen = hist; found = m.0.found ++ found Lose 0 word ∷ [] })))

  -- the gate is nobody's, and its version stays until another takes the slot
  abbrev pub retires : Step (Option P) → Sat P A → ℕ → Sat P A → Type 0
  retires st m word m' = (m'.1 ≡ m.1) × (m'.0 ≡ record m.0 { hold = Empty; found = m.0.found ++ found Retire st.word word ∷ [] })

  -- where the gate was the one expected, the seat's own share of the version lies in its hand
  abbrev pub entered : (P → A) → Step (Option P) → Sat P A → ℕ → Sat P A → Type 0
  entered plain st m word m' = (slot tag passes : ℕ) → st.word ≡ slot + 2 → st.first / 262144 ≡ tag → 18 * passes ≡ st.slots
      → (word ≡ st.first → ((y : P) × (m'.1 ≡ (slot * passes + (m.0.number - 1), Some y) ∷ m.1) × ((i : ℕ) (l : Line A) → get_elem? m.0.seen i ≡ some l → l.ticket ≡ tag → plain y ≡ l.value))
      × (m'.0 ≡ record m.0 { pin = Some (slot, tag); found = m.0.found ++ found Enter st.word word ∷ [] }))
      × (word ≢ st.first → (m'.1 ≡ m.1) × (m'.0 ≡ record m.0 { found = m.0.found ++ found Scan st.word word ∷ [] }))

  -- the share is at home again, and the pin gone
  abbrev pub left : Step (Option P) → Sat P A → ℕ → Sat P A → Type 0
  left st m word m' = (slot : ℕ) (x : Option P) (more : List (ℕ × Option P)) → m.1 ≡ (slot, x) ∷ more
      → (m'.1 ≡ more) × (m'.0 ≡ record m.0 { pin = None; found = m.0.found ++ found Leave st.word word ∷ [] })
