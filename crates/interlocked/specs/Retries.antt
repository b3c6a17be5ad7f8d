-- What a try answers, by what it found.
use Rattle.std.specs.Prelude.{◌≡◌, ◌≢◌, ◌⊎◌, ℕ, ◌+◌, ◌^◌, List, [], ◌∷◌, ◌++◌, length, map, Some, MatchBool}
use mathlib.Core.Option.{some}
use Rattle.plain_model.specs.declared.plain.Plain.{Plain}
use Rattle.plain_model.specs.declared.commands.PlainCall.{PlainCall}
use Rattle.plain_model.specs.declared.history.Reply.{Reply}
use Rattle.plain_model.specs.Cell.{cell, reply_only, install_and_reply}
use Rattle.version_slots.specs.declared.view.View.{View}
use Rattle.version_slots.specs.declared.view.Kind.TheVariants.{Scan}
use Rattle.version_slots.specs.declared.tokens.Front.{Front}
use Rattle.version_slots.specs.Steps.{found}
use Rattle.version_slots.specs.Probes.{Probe, last_word, scans, drawing, AllMissed}
use Rattle.version_slots.specs.Refusals.{PinRefusal}
use Rattle.interlocked.specs.declared.entry.Kept.{Kept}
use Rattle.interlocked.specs.declared.answers.Stamp.{Stamp}
use Rattle.interlocked.specs.declared.answers.Retry.{Retry}
use Rattle.interlocked.specs.declared.answers.Retry.TheVariants as retries
use Rattle.interlocked.specs.declared.answers.Attempt.{Attempt}
use Rattle.interlocked.specs.declared.answers.Attempt.TheVariants as attempts
use lib.ListN.{get_elem?}
use Rattle.version_slots.specs.declared.view.Line.{Line}
use Rattle.interlocked.specs.declared.logged.Logged.{Logged}
use Rattle.interlocked.specs.declared.logged.Turn.{Turn}
use Rattle.interlocked.specs.declared.logged.Turn.TheVariants as turns
use Rattle.interlocked.specs.Entries.{entry, position_of, AreBelow}
use Rattle.interlocked.specs.Tries.{Visits, Wins, Loses}

-- the version with this call as its last
abbrev pub grown : Kept → ℕ → ℕ → PlainCall → Plain → Kept
grown k number ordinal call value = record { value = value; entries = k.entries ++ entry number ordinal call ∷ [] }

-- The call installs nothing on the version that was pinned. This is its reply there
pub record Answers (old : View Kept) (call : PlainCall) (reply : Reply) (stamp : Stamp) (new : View Kept) : Type 0 where
  pub kept : Kept
  pub visits : Visits old stamp.front kept new
  pub outcome : cell call kept.value ≡ reply_only reply
  pub position : stamp.position ≡ position_of kept

-- The call installs a value on the version that was pinned, and this value was put in its place, with the call as the last entry
pub record Installs (old : View Kept) (ordinal : ℕ) (call : PlainCall) (reply : Reply) (stamp : Stamp) (new : View Kept) : Type 0 where
  pub base : Front
  pub kept : Kept
  pub value : Plain
  pub between : View Kept
  pub visits : Visits old base kept between
  pub outcome : cell call kept.value ≡ install_and_reply value reply
  pub wins : Wins between base (grown kept old.number ordinal call value) stamp.front new
  pub position : stamp.position ≡ position_of kept + 1

-- A proposal was refused. The call installs a value on the version `kept` that was pinned
pub record Proposes (old : View Kept) (call : PlainCall) (base : Front) (between : View Kept) : Type 0 where
  pub kept : Kept
  pub value : Plain
  pub visits : Visits old base kept between
  pub installs : (cell call kept.value).installs ≡ Some value

-- Why a proposal on this base was not put in place. Nothing was installed.
-- Ticket: the ticket word became another one before the exchange. Crowded: each of the 18 gates was out of reach.
-- Lost: the head was later than the base. Spent: the ticket word was 2^46
module _ (old : View Kept) (base : Front) (new : View Kept) where
  abbrev pub Refuses : Retry → Type 0
  Refuses (retries.Pin fault) = ⊥
  Refuses (retries.Ticket wanted word) = (word ≢ wanted) × (new ≡ record old { found = old.found ++ found Scan 1 wanted ∷ found Scan 1 word ∷ [] })
  Refuses (retries.Crowded gates) = (ticket : ℕ) × (probes : List Probe) × (length probes ≡ 18) × AllMissed probes × (map last_word probes ≡ gates)
      × (new ≡ record old { ticket = ticket; found = old.found ++ drawing ticket ++ scans 0 probes })
  Refuses (retries.Lost pinned last) = (pinned ≡ base) × Loses old base last new
  Refuses (retries.Spent counter) = (counter ≡ 2 ^ 46) × (new ≡ record old { found = old.found ++ found Scan 1 counter ∷ [] })

module _ (old : View Kept) (call : PlainCall) (new : View Kept) where
  -- a version was pinned, on which the call installs a value, and the proposal was refused
  abbrev pub IsRefused : Retry → Type 0
  IsRefused retry = (base : Front) × (between : View Kept) × Proposes old call base between × Refuses between base new retry

  -- a version of the position 2^46 was pinned
  abbrev pub IsFull : ℕ → Type 0
  IsFull counter = (base : Front) × (kept : Kept) × Visits old base kept new × (position_of kept ≡ counter) × (counter ≡ 2 ^ 46)

  -- why a try has to be made again, by what it found
  abbrev pub Retries : Retry → Type 0
  Retries (retries.Pin fault) = PinRefusal old new fault
  Retries (retries.Spent counter) = IsRefused (retries.Spent counter) ⊎ IsFull counter
  Retries retry = IsRefused retry

module _ (old : View Kept) (ordinal : ℕ) (call : PlainCall) (new : View Kept) where
  -- what one try at a call answers
  abbrev pub Tries : Attempt → Type 0
  Tries (attempts.Done reply stamp) = MatchBool stamp.installed (Installs old ordinal call reply stamp new) (Answers old call reply stamp new)
  Tries (attempts.Again retry) = Retries old call new retry

-- the history ends with a version of this front and this value
abbrev pub EndsIn : List (Line Kept) → Front → Kept → Type 0
EndsIn seen front kept = (before : List (Line Kept)) × (number : ℕ) × (seen ≡ before ++ (record { number = number; ticket = front.ticket; slot = front.slot; value = kept }) ∷ [])

-- the ordinals of this pass's own calls are below this one
abbrev pub MineBelow : View Kept → ℕ → Type 0
MineBelow v ordinal = (i : ℕ) (l : Line Kept) → get_elem? v.mine i ≡ some l → AreBelow v.number ordinal l.value.entries

-- what a call comes to at a version
module _ {C X : Type 0} (plain : Logged C X → Kept) (kept : Kept) (number ordinal : ℕ) (call : PlainCall) where
  abbrev pub TurnsTo : Turn C X → Type 0
  TurnsTo (turns.Stays reply) = cell call kept.value ≡ reply_only reply
  TurnsTo (turns.Grows reply next) = (value : Plain) × (cell call kept.value ≡ install_and_reply value reply) × (plain next ≡ grown kept number ordinal call value) × (value.kind ≡ kept.value.kind)
  TurnsTo turns.Full = position_of kept ≡ 2 ^ 46
  TurnsTo turns.Memory = Unit {0}

-- a version was pinned and let go, and nothing else happened
abbrev pub OnlyVisits : View Kept → View Kept → Type 0
OnlyVisits old new = (front : Front) × (kept : Kept) × Visits old front kept new
