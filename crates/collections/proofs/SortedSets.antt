-- Sorted sets as the plain model sees them.
use Rattle.std.proofs.Common.{◌≡◌, List, Some, refl}
use Rattle.std.specs.Ordering.{eq_by_cmp}
use denote.Enum.Bare.{sameb}
use Rattle.imm_base.specs.contracts.comparers.ValOrder.{the_type}
use Rattle.imm_base.specs.declared.val.Val.{Val}
use Rattle.imm_base.specs.declared.comparers.ValOrder.{ValOrder}
use Rattle.imm_base.specs.declared.comparers.ValOrder.TheVariants as orders
use Rattle.imm_base.specs.Order.{val_cmp, order_cmp}
use Rattle.imm_base.specs.Rekey.{set_rekey}
use Rattle.plain_model.specs.declared.plain.Comparer.{Comparer}
use Rattle.plain_model.specs.declared.plain.Kind.{Kind}
use Rattle.plain_model.specs.declared.plain.Kind.TheVariants as kinds
use Rattle.plain_model.specs.Comparers.{order_named, name_of_order, with_comparer}
use Rattle.plain_model.specs.Plain.{Changed, of_list}
use Rattle.collections.specs.Changes.{rekeyed_by}
use Rattle.collections.specs.Kinds.{kind_of}
use Rattle.collections.proofs.Comparers.{order_is_named, rekeyed_as}

kind_is : (old order : ValOrder) → with_comparer (kinds.SSet old) (name_of_order order) ≡ Some (kinds.SSet order)
kind_is old orders.Ordinal = refl
kind_is old orders.Reverse = refl
kind_is old orders.NoCase = refl

abbrev set_in : ValOrder → ValOrder → List Val → Changed
set_in old order xs =
    of_list (kind_of (kinds.SSet order) xs) (set_rekey val_cmp (order_cmp order) (eq_by_cmp (order_cmp order)) (sameb the_type order old) xs)

set_named : (old order : ValOrder) (xs : List Val) → set_in old order xs ≡ rekeyed_by (name_of_order order) (kinds.SSet order) (kind_of (kinds.SSet old) xs)
set_named orders.Ordinal orders.Ordinal xs = refl
set_named orders.Ordinal orders.Reverse xs = refl
set_named orders.Ordinal orders.NoCase xs = refl
set_named orders.Reverse orders.Ordinal xs = refl
set_named orders.Reverse orders.Reverse xs = refl
set_named orders.Reverse orders.NoCase xs = refl
set_named orders.NoCase orders.Ordinal xs = refl
set_named orders.NoCase orders.Reverse xs = refl
set_named orders.NoCase orders.NoCase xs = refl

-- a set in the order of a comparer is the set under it
pub set_rekeyed : (old order : ValOrder) (comparer : Comparer) (kind : Kind) (xs : List Val)
    → order_named comparer ≡ Some order → with_comparer (kinds.SSet old) comparer ≡ Some kind
    → set_in old order xs ≡ rekeyed_by comparer kind (kind_of (kinds.SSet old) xs)
set_rekeyed old order comparer kind xs e f =
    rekeyed_as (kind_of (kinds.SSet old) xs) (name_of_order order) comparer (kinds.SSet order) kind (set_in old order xs)
    (kind_is old order) (order_is_named comparer order e) f (set_named old order xs)
