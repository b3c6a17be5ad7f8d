-- Which gates may become Held.
use Rattle.std.specs.Prelude.{◌≡◌, ℕ, ◌+◌, ◌<◌, List, Option, slice_index}
use Rattle.atomic_table.specs.Table.{State}
use Rattle.version_slots.specs.declared.view.View.{View}
use Rattle.version_slots.specs.Words.{IsClaimable}
use Rattle.version_slots.specs.Rule.{Sound}

-- the gate of this slot is claimable
abbrev pub IsClaimableAt : List ℕ → ℕ → Type 0
IsClaimableAt words slot = IsClaimable (slice_index words (slot + 2))

-- none of the first slots has a claimable gate
abbrev pub AreOut : ℕ → List ℕ → Type 0
AreOut count words = (slot : ℕ) → slot < count → ¬ IsClaimableAt words slot

-- this slot is the first with a claimable gate
abbrev pub IsLeastIn : List ℕ → ℕ → Type 0
IsLeastIn words slot = (slot < 18) × IsClaimableAt words slot × AreOut slot words

-- some slot has a claimable gate
abbrev pub SomeIsClaimable : List ℕ → Type 0
SomeIsClaimable words = (slot : ℕ) × (slot < 18) × IsClaimableAt words slot

-- The rule holds of these words with some views. Which payloads a cell has makes no difference here: of these nothing is told
abbrev pub CanStand : List ℕ → Type 0
CanStand words = (passes : ℕ) × (s : State (Option (Unit {0})) (View (Unit {0}))) × Sound (λ _. tt) (λ _ _ _. Unit {0}) passes tt s × (s.words ≡ words)
