-- The steps of a call that looks for a slot.
use Rattle.std.specs.Prelude.{◌≡◌, ◌≢◌, ℕ, ◌+◌, suc, List, [], ◌∷◌, ◌++◌, Option, Some, None, unwrap_or}
use mathlib.Core.Option.{some}
use lib.ListN.{get_elem?}
use Rattle.version_slots.specs.declared.view.Found.{Found}
use Rattle.version_slots.specs.declared.view.Kind.TheVariants.{Scan, Draw, Claim, Publish}
use Rattle.version_slots.specs.Words.{IsClaimable}
use Rattle.version_slots.specs.Steps.{found}

-- what a call found at one gate: at its load, and at its exchange, if it made one
pub record Probe : Type 0 where
  pub loaded : ℕ
  pub tried : Option ℕ

-- the word that was found last
abbrev pub last_word : Probe → ℕ
last_word p = unwrap_or p.tried p.loaded

-- the steps at a gate that was not claimed
abbrev pub tries : ℕ → ℕ → Option ℕ → List Found
tries place loaded None = found Scan place loaded ∷ []
tries place loaded (Some word) = found Scan place loaded ∷ found Scan place word ∷ []

-- the steps at gates from this slot on
abbrev pub scans : ℕ → List Probe → List Found
scans slot [] = []
scans slot (p ∷ ps) = tries (slot + 2) p.loaded p.tried ++ scans (suc slot) ps

-- the gate was not claimable at its load, or became another word before the exchange
abbrev pub Missed : ℕ → Option ℕ → Type 0
Missed loaded None = ¬ IsClaimable loaded
Missed loaded (Some word) = IsClaimable loaded × (word ≢ loaded)

-- none of these gates was claimed
abbrev pub AllMissed : List Probe → Type 0
AllMissed ps = (k : ℕ) (p : Probe) → get_elem? ps k ≡ some p → Missed p.loaded p.tried

-- the steps that draw this ticket
abbrev pub drawing : ℕ → List Found
drawing ticket = found Scan 1 ticket ∷ found Draw 1 ticket ∷ []

-- the steps at the gate that was claimed
abbrev pub claiming : ℕ → ℕ → ℕ → List Found
claiming slot loaded word = found Scan (slot + 2) loaded ∷ found Claim (slot + 2) loaded ∷ found Publish (slot + 2) word ∷ []
