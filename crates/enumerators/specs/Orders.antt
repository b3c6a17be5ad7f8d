-- The order in which a walk comes to the elements of a collection.
use Rattle.std.specs.Prelude.{ℤ, List, map}
use Rattle.std.specs.Ordering.{on}
use Rattle.imm_base.specs.declared.val.Val.{Val}
use Rattle.imm_base.specs.Order.{val_cmp}
use Rattle.imm_base.specs.Lists.{sorted}
use Rattle.imm_base.specs.Maps.{Entries}
use Rattle.hash_bucket.specs.Buckets.{hash_order}
use Rattle.plain_model.specs.declared.plain.Elem.{Elem}
use Rattle.plain_model.specs.declared.plain.Elem.TheVariants.{One, Pair}

-- as the collection is kept
abbrev pub values_in_order : List Val → List Elem
values_in_order vs = map One vs

abbrev pub pairs_in_order : Entries Val Val → List Elem
pairs_in_order m = map (λ e. Pair e.0 e.1) m

-- by hash, and then in the ordinal order, a pair by its key
abbrev pub values_by_hash : (Val → ℤ) → List Val → List Elem
values_by_hash hash vs = map One (sorted (hash_order val_cmp hash) vs)

abbrev pub pairs_by_hash : (Val → ℤ) → Entries Val Val → List Elem
pairs_by_hash hash m = pairs_in_order (sorted (on (λ e. e.0) (hash_order val_cmp hash)) m)
