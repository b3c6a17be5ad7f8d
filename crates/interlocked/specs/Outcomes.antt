-- What a call on a collection gives, in the words of the plain model.
use Rattle.std.specs.Prelude.{◌≡◌, Bool, true, false, Option, Some, None}
use Rattle.imm_base.specs.declared.val.Edit.{Edit}
use Rattle.imm_base.specs.declared.val.Edit.TheVariants.{Same, New}
use Rattle.plain_model.specs.declared.plain.Kind.{Kind}
use Rattle.plain_model.specs.declared.plain.Plain.{Plain}
use Rattle.plain_model.specs.declared.commands.PlainCall.{PlainCall}
use Rattle.plain_model.specs.Cell as model
use Rattle.plain_model.specs.Cell.{cell}
use Rattle.interlocked.specs.declared.change.Outcome.{Outcome}

-- an edit is what the call installs, or nothing where it installs nothing
abbrev pub Edits : {C : Type 0} → (C → Plain) → Option Plain → Edit C → Type 0
Edits plain installs Same = installs ≡ None
Edits plain installs (New c) = installs ≡ Some (plain c)

-- a new value has this kind, with its comparer
abbrev pub KeepsKind : {C : Type 0} → (C → Plain) → Kind → Edit C → Type 0
KeepsKind plain kind Same = Unit {0}
KeepsKind plain kind (New c) = (plain c).kind ≡ kind

-- The outcome is the one that the plain model gives: its reply, and another collection exactly where that installs one, which has this kind
pub record IsOutcome {C : Type 0} (plain : C → Plain) (of : Kind) (given : model.Outcome) (outcome : Outcome C) : Type 0 where
  pub reply : outcome.reply ≡ given.reply
  pub edit : Edits plain given.installs outcome.edit
  pub kind : KeepsKind plain of outcome.edit

-- The outcome is that of the call on this value
abbrev pub Applies : {C : Type 0} → (C → Plain) → PlainCall → Plain → Outcome C → Type 0
Applies plain call old outcome = IsOutcome plain old.kind (cell call old) outcome

-- an edit that gives another collection
abbrev pub is_new : {C : Type 0} → Edit C → Bool
is_new Same = false
is_new (New c) = true
