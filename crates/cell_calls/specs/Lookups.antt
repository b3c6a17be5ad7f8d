-- What a collection has at a key.
use Rattle.std.specs.Prelude.{◌≡◌, true, false, Option, Some, None}
use Rattle.imm_base.specs.declared.val.Val.{Val}
use Rattle.plain_model.specs.declared.plain.Plain.{Plain}
use Rattle.plain_model.specs.Cell.{is_map, value_in}
use Rattle.plain_model.specs.Plain.{shape_of}
use Rattle.cell_calls.specs.declared.key_calls.Lookup.{Lookup}
use Rattle.cell_calls.specs.declared.key_calls.Lookup.TheVariants as lookups

-- it is a map, and this is the value of the key, if it has one
pub record Finds (k : Val) (p : Plain) (found : Option Val) : Type 0 where
  pub map : is_map (shape_of p.kind) ≡ true
  pub value : value_in k p ≡ found

abbrev pub IsLookup : Val → Plain → Lookup → Type 0
IsLookup k p lookups.NoKeys = is_map (shape_of p.kind) ≡ false
IsLookup k p lookups.Absent = Finds k p None
IsLookup k p (lookups.Present v) = Finds k p (Some v)
