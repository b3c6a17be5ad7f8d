-- A hash set of known elements.
use Rattle.std.specs.Prelude.{List, Bool}
use Rattle.std.specs.Option.{option_map_or}
use Rattle.std.specs.declared.cmp.Ordering.{Ordering}
use Rattle.imm_base.specs.Sets.{same_in, with_element}
use Rattle.hash_bucket.specs.Hashed.{Hashed}

-- these elements, under this equality
abbrev pub kept : {T H : Type 0} → H → List T → Hashed T H
kept eq xs = record { eq = eq; items = xs }

-- xs with the element of others that is same to v, where there is one
abbrev pub with_common : {T : Type 0} → (T → T → Ordering) → (T → T → Bool) → T → List T → List T → List T
with_common cmp same v others xs = option_map_or (λ x. with_element cmp same x xs) (same_in same v others) xs
