-- The kinds of step on a place of a shared pool, and what each tells the seat that made it.
use Rattle.std.specs.Prelude.{◌≡◌, ◌≢◌, ℕ, ◌+◌, ◌*◌, ◌/◌, ◌%◌, ◌<◌, List, [], ◌∷◌, ◌++◌, slice_set, Option, Some, None}
use Rattle.atomic_table.specs.Table.{Me, Step, rest}
use Rattle.stack_pool.specs.declared.TheConstants.{STRIDE}
use Rattle.stack_pool.specs.declared.view.Kind.{Kind}
use Rattle.stack_pool.specs.declared.view.Kind.TheVariants.{Probe, Take, Back, Hold, Clear}
use Rattle.stack_pool.specs.declared.view.Found.{Found}
use Rattle.stack_pool.specs.declared.view.Keep.{Keep}
use Rattle.stack_pool.specs.declared.view.Keep.TheVariants.{Nothing, Home, Out, Lent}
use Rattle.stack_pool.specs.declared.view.View.{View}
use Rattle.stack_pool.specs.Views.{number_of, word_of, kept_at, number_at, next_number}

-- a seat: what it knows, and the slots in its hand
abbrev pub Sat : Type 0 → Type 0
Sat S = Me (Option S) (View S)

abbrev pub found : Kind → ℕ → ℕ → Found
found kind place word = record { kind = kind; place = place; word = word }

module _ {S : Type 0} where
  -- what a seat that finds this word at the place knows: the word of a place that it keeps, and of
  -- any other place a number that is not its own
  abbrev pub Shows : View S → ℕ → ℕ → Type 0
  Shows v place word =
      (number_of (kept_at v.kept place) ≢ 0 → (word ≡ word_of (kept_at v.kept place))
      × (word / 2 % STRIDE ≡ v.number))
      × (v.number < STRIDE → word ≢ 0 → word / 2 % STRIDE ≡ v.number
      → (number_of (kept_at v.kept place) ≢ 0) × (word ≡ word_of (kept_at v.kept place)))

  -- the seat has made one more step
  abbrev pub noting : Kind → View S → ℕ → ℕ → View S
  noting kind v place word = record v { found = v.found ++ found kind place word ∷ [] }

  -- by it the seat keeps the place so
  abbrev pub keeping : Kind → View S → ℕ → ℕ → Keep S → View S
  keeping kind v place word k = record v {
    kept = slice_set v.kept place k;
    found = v.found ++ found kind place word ∷ [];
  }

  -- Probe: a load of a place's word
  abbrev pub probed : Step (Option S) → Sat S → ℕ → Sat S → Type 0
  probed st m word m' = (m'.1 ≡ m.1) × Shows m.0 st.word word
      × (m'.0 ≡ noting Probe m.0 st.word word)

  -- and one by which the empty slot in the seat's hand goes home, and its content is lent
  abbrev pub laid : Step (Option S) → Sat S → ℕ → Sat S → Type 0
  laid st m word m' = let number = number_at m.0 st.word in
      (m'.1 ≡ rest m.1) × (word ≡ number * 2 + 1)
      × (m'.0 ≡ keeping Probe m.0 st.word word (Lent number))

  -- and one by which the empty slot of a content that was lent comes into the seat's hand
  abbrev pub fetched : Step (Option S) → Sat S → ℕ → Sat S → Type 0
  fetched st m word m' = let number = number_at m.0 st.word in
      (m'.1 ≡ (st.word, None) ∷ m.1) × (word ≡ number * 2 + 1)
      × (m'.0 ≡ keeping Probe m.0 st.word word (Out number))

  -- Take: the free place is the seat's under its next number; a place that is not free is probed
  abbrev pub took : Step (Option S) → Sat S → ℕ → Sat S → Type 0
  took st m word m' =
      (word ≡ 0 → (m'.1 ≡ (st.word, None) ∷ m.1) × (number_at m.0 st.word ≡ 0)
      × (m'.0 ≡ record (keeping Take m.0 st.word word (Out (next_number m.0))) {
        takings = m.0.takings + 1;
      }))
      × (word ≢ 0 → (m'.1 ≡ m.1) × Shows m.0 st.word word × (m'.0 ≡ noting Probe m.0 st.word word))

  -- Back: the content in the seat's hand is at home
  abbrev pub backed : Step (Option S) → Sat S → ℕ → Sat S → Type 0
  backed st m word m' = let number = number_at m.0 st.word in
      (x : S) → m.1 ≡ (st.word, Some x) ∷ rest m.1
      → (m'.1 ≡ rest m.1) × (word ≡ number * 2 + 1)
      × (m'.0 ≡ keeping Back m.0 st.word word (Home number x))

  -- Hold: the content that was at home is in the seat's hand
  abbrev pub lifted : Step (Option S) → Sat S → ℕ → Sat S → Type 0
  lifted st m word m' = let number = number_at m.0 st.word in
      (x : S) × (kept_at m.0.kept st.word ≡ Home number x)
      × (m'.1 ≡ (st.word, Some x) ∷ m.1) × (word ≡ number * 2)
      × (m'.0 ≡ keeping Hold m.0 st.word word (Out number))

  -- Clear: the place is nobody's
  abbrev pub cleared : Step (Option S) → Sat S → ℕ → Sat S → Type 0
  cleared st m word m' =
      (m'.1 ≡ rest m.1) × (word ≡ number_at m.0 st.word * 2 + 1)
      × (m'.0 ≡ keeping Clear m.0 st.word word Nothing)
