-- What a call on a collection gives, in the words of the plain model.
use Rattle.std.specs.Prelude.{◌≡◌, Option, Some, None, Ok}
use Rattle.imm_base.specs.declared.val.Edit.{Edit}
use Rattle.imm_base.specs.declared.val.Edit.TheVariants.{Same, New}
use Rattle.plain_model.specs.declared.plain.Kind.{Kind}
use Rattle.plain_model.specs.declared.plain.Plain.{Plain}
use Rattle.plain_model.specs.Plain.{Changed}
use Rattle.plain_model.specs.Cell as model
use Rattle.cell_calls.specs.declared.outcome.Outcome.{Outcome}

-- an edit is what the call installs, or nothing where it installs nothing
abbrev pub installs_of : Edit Plain → Option Plain
installs_of Same = None
installs_of (New p) = Some p

abbrev pub plain_outcome : Outcome → model.Outcome
plain_outcome o = record { installs = installs_of o.edit; reply = o.reply }

-- a new value has this kind, with its comparer
abbrev pub KeepsKind : Kind → Edit Plain → Type 0
KeepsKind kind Same = Unit {0}
KeepsKind kind (New p) = p.kind ≡ kind

-- an operation gives another collection
abbrev pub GivesOther : Changed → Type 0
GivesOther (Ok (New p)) = Unit {0}
GivesOther _ = ⊥
