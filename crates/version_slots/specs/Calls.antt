-- What each call did, by what the pass knew before and after: what it has seen, what it has in hand, what it pins, and what its steps found. Nothing else of its view has changed.
use Rattle.std.specs.Prelude.{◌≡◌, ◌≢◌, ℕ, ◌+◌, ◌<◌, List, [], ◌∷◌, ◌++◌, length, Some, None}
use Rattle.version_slots.specs.declared.view.Line.{Line}
use Rattle.version_slots.specs.declared.view.View.{View}
use Rattle.version_slots.specs.declared.view.Hold.TheVariants.{Empty, Ready}
use Rattle.version_slots.specs.declared.view.Kind.TheVariants.{Look, Scan, Enter, Leave, Win, Lose, Retire, Withdraw}
use Rattle.version_slots.specs.declared.tokens.Front.{Front}
use Rattle.version_slots.specs.Words.{head_word, live_word, IsLive, IsClaimable}
use Rattle.version_slots.specs.Histories.{StartsWith, upto}
use Rattle.version_slots.specs.Views.{joined, line_of}
use Rattle.version_slots.specs.Steps.{found}
use Rattle.version_slots.specs.Probes.{Probe, scans, drawing, claiming, AllMissed}
use Rattle.version_slots.specs.Tokens.{front_of, Pins, Proposed}

module _ {A : Type 0} (old new : View A) where
  -- the head was loaded, and it was that of this front
  abbrev pub HasLooked : Front → Type 0
  HasLooked front = new ≡ record old { seen = new.seen; found = old.found ++ found Look 0 (head_word front.ticket front.slot) ∷ [] }

  -- the head was loaded; the gate of its slot was Live with its ticket, and has one pin more
  abbrev pub HasPinned : Front → A → Type 0
  HasPinned front value = (loaded : ℕ) × IsLive loaded front.ticket × (front ≡ front_of new.seen) × Pins new front value
      × (new ≡ record old {
        seen = new.seen;
        pin = Some (front.slot, front.ticket);
        found = ((old.found ++ found Look 0 (head_word front.ticket front.slot) ∷ []) ++ found Scan (front.slot + 2) loaded ∷ []) ++ found Enter (front.slot + 2) loaded ∷ [];
      })

  -- the gate has one pin less
  abbrev pub HasLetGo : Front → Type 0
  HasLetGo front = (word : ℕ) × (new ≡ record old { pin = None; found = old.found ++ found Leave (front.slot + 2) word ∷ [] })

  -- a ticket was drawn, the gates before this slot's were missed, this one was claimed, and the value lies there on the history up to the base
  abbrev pub HasProposed : Front → A → ℕ → ℕ → Front → Type 0
  HasProposed base value slot ticket named = (probes : List Probe) × (loaded : ℕ) × (length probes ≡ slot) × AllMissed probes × IsClaimable loaded × (named ≡ base) × Proposed new slot ticket named
      × (new ≡ record old {
        ticket = ticket;
        hold = Ready slot (upto base.ticket base.slot old.seen) value;
        found = old.found ++ drawing ticket ++ scans 0 probes ++ claiming slot loaded 1;
      })

  -- the head was the base's. The proposal is the version after it, and the pass's own; the gate of the base is Retired
  abbrev pub HasInstalled : ℕ → Front → Front → Type 0
  HasInstalled slot base front = (hist : List (Line A)) × (value : A) × (word : ℕ) × (old.hold ≡ Ready slot hist value) × (front ≡ front_of new.seen)
      × (new ≡ record old {
        seen = hist ++ line_of old slot value ∷ [];
        mine = old.mine ++ line_of old slot value ∷ [];
        hold = Empty;
        found = (old.found ++ found Win 0 (head_word base.ticket base.slot) ∷ []) ++ found Retire (base.slot + 2) word ∷ [];
      })

  -- the head was that of a later version than the base, and the value is no proposal any more
  abbrev pub HasLost : ℕ → ℕ → Front → Front → A → Type 0
  HasLost slot ticket base last value = (hist : List (Line A)) × (head : ℕ) × (old.hold ≡ Ready slot hist value) × (last ≡ front_of new.seen)
      × (head ≡ head_word last.ticket last.slot) × (head ≢ head_word base.ticket base.slot)
      × StartsWith new.seen old.seen × StartsWith new.seen hist × (length hist < length new.seen)
      × (new ≡ record old {
        seen = new.seen;
        hold = Empty;
        found = ((old.found ++ found Lose 0 head ∷ []) ++ found Withdraw (slot + 2) (live_word ticket) ∷ []) ++ found Withdraw (slot + 2) 1 ∷ [];
      })

  -- the proposal of this slot was taken back
  abbrev pub HasWithdrawn : ℕ → Type 0
  HasWithdrawn slot = new ≡ record old { hold = Empty; found = (old.found ++ found Withdraw (slot + 2) (live_word old.ticket) ∷ []) ++ found Withdraw (slot + 2) 1 ∷ [] }

  -- what another pass had told was taken in, and then the head was loaded
  abbrev pub HasHeard : View A → Front → Type 0
  HasHeard told front = new ≡ record (joined old told) { seen = new.seen; found = old.found ++ found Look 0 (head_word front.ticket front.slot) ∷ [] }
