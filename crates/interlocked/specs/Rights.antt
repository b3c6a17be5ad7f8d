-- What stands of a call in a history, so that it stays as the history grows.
use Rattle.std.specs.Prelude.{◌≡◌, ℕ, ◌+◌, ◌<◌, ◌≤◌, MatchBool, suc, List, [], ◌∷◌, ◌++◌, length}
use mathlib.Core.Option.{some}
use lib.ListN.{get_elem?}
use Rattle.plain_model.specs.declared.plain.Plain.{Plain}
use Rattle.plain_model.specs.declared.commands.PlainCall.{PlainCall}
use Rattle.plain_model.specs.declared.history.Reply.{Reply}
use Rattle.plain_model.specs.Cell.{cell, reply_only, install_and_reply}
use Rattle.version_slots.specs.declared.view.Line.{Line}
use Rattle.interlocked.specs.declared.entry.Kept.{Kept}
use Rattle.interlocked.specs.declared.entry.Entry.{Entry}
use Rattle.version_slots.specs.declared.view.View.{View}
use Rattle.interlocked.specs.declared.answers.Stamp.{Stamp}
use Rattle.interlocked.specs.declared.answers.Attempt.{Attempt}
use Rattle.interlocked.specs.declared.answers.Attempt.TheVariants.{Done, Again}
use Rattle.interlocked.specs.Entries.{entry, added}
use Rattle.interlocked.specs.Retries.{grown}
use Rattle.interlocked.specs.Whole.{made}

-- the call does not install on the version at this place, and this is its reply there
pub record IsAnswered (hist : List (Line Kept)) (call : PlainCall) (reply : Reply) (position : ℕ) : Type 0 where
  pub line : Line Kept
  pub at : get_elem? hist position ≡ some line
  pub outcome : cell call line.value.value ≡ reply_only reply

-- the version at this place is what this caller's call makes of the one before it
pub record IsInstalled (hist : List (Line Kept)) (caller ordinal : ℕ) (call : PlainCall) (reply : Reply) (position : ℕ) : Type 0 where
  pub before : ℕ
  pub line : Line Kept
  pub next : Line Kept
  pub value : Plain
  pub place : position ≡ suc before
  pub at : get_elem? hist before ≡ some line
  pub there : get_elem? hist (suc before) ≡ some next
  pub caller_is : next.number ≡ caller
  pub grows : next.value ≡ grown line.value caller ordinal call value
  pub outcome : cell call line.value.value ≡ install_and_reply value reply

-- the same of entries: the call does not install on what the entries up to its position make
pub record AnsweredAt (first : Plain) (entries : List (Entry PlainCall)) (call : PlainCall) (reply : Reply) (position : ℕ) : Type 0 where
  pub before : List (Entry PlainCall)
  pub rest : List (Entry PlainCall)
  pub split : entries ≡ before ++ rest
  pub place : length before ≡ position
  pub outcome : cell call (made first before) ≡ reply_only reply

-- the entry at its position is this call, which installs on what the entries before it make
pub record InstalledAt (first : Plain) (entries : List (Entry PlainCall)) (caller ordinal : ℕ) (call : PlainCall) (reply : Reply) (position : ℕ) : Type 0 where
  pub before : List (Entry PlainCall)
  pub rest : List (Entry PlainCall)
  pub value : Plain
  pub split : entries ≡ (before ++ entry caller ordinal call ∷ []) ++ rest
  pub place : position ≡ length before + 1
  pub outcome : cell call (made first before) ≡ install_and_reply value reply

-- What a call did that is done: where it stands in the history that was seen, behind all that had been seen, and what of it is the pass's own
pub record Made (old new : View Kept) (ordinal : ℕ) (call : PlainCall) (reply : Reply) (stamp : Stamp) : Type 0 where
  pub stands : MatchBool stamp.installed (IsInstalled new.seen old.number ordinal call reply stamp.position) (IsAnswered new.seen call reply stamp.position)
  pub behind : MatchBool stamp.installed (length old.seen ≤ stamp.position) (length old.seen ≤ stamp.position + 1)
  -- the version at its position was seen
  pub within : stamp.position < length new.seen
  pub mine : MatchBool stamp.installed (added new.mine ≡ added old.mine ++ entry old.number ordinal call ∷ []) (new.mine ≡ old.mine)

-- what a try did, if the call is done
abbrev pub MadeIn : View Kept → View Kept → ℕ → PlainCall → Attempt → Type 0
MadeIn old new ordinal call (Done reply stamp) = Made old new ordinal call reply stamp
MadeIn old new ordinal call (Again retry) = Unit {0}

-- the version at this place has this value
pub record Shows (hist : List (Line Kept)) (position : ℕ) (got : Plain) : Type 0 where
  pub line : Line Kept
  pub at : get_elem? hist position ≡ some line
  pub value : line.value.value ≡ got

-- What a read did: the value stands at the stamp, and any call that installs nothing there would be told the same of its place
pub record ReadsAt (old new : View Kept) (got : Plain) (stamp : Stamp) : Type 0 where
  pub there : Shows new.seen stamp.position got
  pub answers : (ordinal : ℕ) (call : PlainCall) (reply : Reply) → cell call got ≡ reply_only reply → Made old new ordinal call reply stamp
