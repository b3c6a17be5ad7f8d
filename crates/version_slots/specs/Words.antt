-- The words of a cell. Word 0 is the head, word 1 the next ticket, and word k + 2 the gate of the slot k.
use Rattle.std.specs.Prelude.{◌≡◌, ◌⊎◌, ℕ, ◌+◌, ◌*◌, ◌/◌, ◌%◌}

-- the word of a head: the ticket and the slot of the last version
abbrev pub head_word : ℕ → ℕ → ℕ
head_word ticket slot = ticket * 32 + slot

-- the word of a Live gate with this tag and no pins
abbrev pub live_word : ℕ → ℕ
live_word tag = tag * 262144 + 2

-- who stands behind a Live gate: the head, the seat that has it ready, or the seat that is to retire it
pub data Use : Type 0 where
  shown : Use
  ready : ℕ → Use
  duty : ℕ → Use

-- a Held gate names its seat, a Live one has a tag, a count of pins and a use, a Retired one a tag and a count of pins
pub data Gate : Type 0 where
  free : Gate
  held : ℕ → Gate
  live : ℕ → ℕ → Use → Gate
  retired : ℕ → ℕ → Gate

-- what stands in the word of a gate: a tag, a count of pins and a phase, of Free 0, Held 1, Live 2 and Retired 3
abbrev pub gate_word : Gate → ℕ
gate_word free = 0
gate_word (held seat) = 1
gate_word (live tag pins role) = tag * 262144 + pins * 4 + 2
gate_word (retired tag pins) = tag * 262144 + pins * 4 + 3

-- how many pins the gate has
abbrev pub pins_of : Gate → ℕ
pins_of free = 0
pins_of (held seat) = 0
pins_of (live tag pins role) = pins
pins_of (retired tag pins) = pins

-- the gate is Live or Retired, with this tag
abbrev pub Tagged : Gate → ℕ → Type 0
Tagged free tag = ⊥
Tagged (held seat) tag = ⊥
Tagged (live t pins role) tag = t ≡ tag
Tagged (retired t pins) tag = t ≡ tag

-- the gate's word is one that may become Held
abbrev pub IsClaimable : ℕ → Type 0
IsClaimable word = (word ≡ 0) ⊎ ((word / 4 % 65536 ≡ 0) × (word % 4 ≡ 3))

-- a gate's word is Live with this tag
abbrev pub IsLive : ℕ → ℕ → Type 0
IsLive word ticket = (word % 4 ≡ 2) × (word / 262144 ≡ ticket)
