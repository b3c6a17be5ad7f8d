-- Which elements stay: the first of those that an order calls equal.
use Rattle.std.specs.Prelude.{◌≡◌, List, []}
use Rattle.std.specs.Ordering.{eq_by_cmp}
use Rattle.std.specs.declared.cmp.Ordering.{Ordering}
use Rattle.std.specs.declared.cmp.Ordering.TheVariants.{Equal}
use Rattle.imm_base.specs.declared.comparers.ValOrder.{ValOrder}
use Rattle.imm_base.specs.declared.comparers.ValOrder.TheVariants as orders
use Rattle.imm_base.specs.declared.comparers.ValEq.{ValEq}
use Rattle.imm_base.specs.declared.comparers.ValEq.TheVariants as equalities
use Rattle.imm_base.specs.Sets.{union}

-- the order that calls the values equal that are same
abbrev pub order_of : ValEq → ValOrder
order_of equalities.Ordinal = orders.Ordinal
order_of equalities.NoCase = orders.NoCase
order_of equalities.One = orders.Ordinal

module _ {T : Type 0} (cmp by : T → T → Ordering) where
  -- what `cmp` calls equal, `by` does too
  abbrev pub TiesToo : Type 0
  TiesToo = (a b : T) → cmp a b ≡ Equal → by a b ≡ Equal

  -- the first of the elements that `by` calls equal, in the order `cmp`
  abbrev pub firsts : List T → List T
  firsts xs = union cmp (eq_by_cmp by) [] xs
