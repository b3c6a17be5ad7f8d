-- What a conditional update answers.
use Rattle.std.specs.Prelude.{◌≡◌, ◌⊎◌, ◌↔◌, ◌-◌, ℕ, List, true, false, Some, None, if◌then◌else◌}
use Rattle.imm_base.specs.declared.val.Val.{Val}
use Rattle.imm_base.specs.Order.{val_eq}
use Rattle.plain_model.specs.declared.plain.Kind.{Kind}
use Rattle.plain_model.specs.declared.plain.Plain.{Plain}
use Rattle.plain_model.specs.declared.history.Reply.{Reply}
use Rattle.plain_model.specs.declared.history.Reply.TheVariants.{Flag}
use Rattle.plain_model.specs.Plain.{shape_of}
use Rattle.plain_model.specs.Cell.{is_map, value_in}
use Rattle.version_slots.specs.declared.view.Line.{Line}
use Rattle.interlocked.specs.declared.answers.Stamp.{Stamp}
use Rattle.interlocked.specs.declared.entry.Kept.{Kept}
use Rattle.interlocked.specs.Rights.{Shows}

-- a kind whose collections have keys with values
abbrev pub IsMapKind : Kind → Type 0
IsMapKind kind = is_map (shape_of kind) ≡ true

-- a collection of keys with values
abbrev pub IsMap : Plain → Type 0
IsMap p = IsMapKind p.kind

-- the key has the value that it is compared with
abbrev pub HasValue : Plain → Val → Val → Type 0
HasValue p key comparison = (u : Val) × (value_in key p ≡ Some u) × (val_eq u comparison ≡ true)

-- the key is absent, or has another value
abbrev pub LacksValue : Plain → Val → Val → Type 0
LacksValue p key comparison = (value_in key p ≡ None) ⊎ ((u : Val) × (value_in key p ≡ Some u) × (val_eq u comparison ≡ false))

-- the reply is true exactly where the key has this value, and false exactly where not
pub record TellsValue (p : Plain) (key comparison : Val) (reply : Reply) : Type 0 where
  pub changed : reply ≡ Flag true ↔ HasValue p key comparison
  pub unchanged : reply ≡ Flag false ↔ LacksValue p key comparison

-- the position of the value on which a call was made: where it installed, the one before its own
abbrev pub base_of : Stamp → ℕ
base_of stamp = if stamp.installed then stamp.position - 1 else stamp.position

-- in the value at its place, the reply tells whether the key has the value that it is compared with
pub record TellsThere (hist : List (Line Kept)) (stamp : Stamp) (key comparison : Val) (reply : Reply) : Type 0 where
  pub got : Plain
  pub there : Shows hist (base_of stamp) got
  pub tells : TellsValue got key comparison reply
