-- Sorted maps as the plain model sees them.
use Rattle.std.proofs.Common.{◌≡◌, Some, refl}
use Rattle.std.specs.Prelude.{Result}
use Rattle.std.specs.Ordering.{eq_by_cmp}
use denote.Enum.Bare.{sameb}
use Rattle.imm_base.specs.contracts.comparers.ValOrder.{the_type}
use Rattle.imm_base.specs.declared.val.Val.{Val}
use Rattle.imm_base.specs.declared.comparers.ValOrder.{ValOrder}
use Rattle.imm_base.specs.declared.comparers.ValOrder.TheVariants as orders
use Rattle.imm_base.specs.Order.{val_cmp, val_eq, order_cmp}
use Rattle.imm_base.specs.Maps.{Entries}
use Rattle.imm_base.specs.Rekey.{pairs_under, map_rekey}
use Rattle.plain_model.specs.declared.plain.Comparer.{Comparer}
use Rattle.plain_model.specs.declared.plain.Kind.{Kind}
use Rattle.plain_model.specs.declared.plain.Kind.TheVariants as kinds
use Rattle.plain_model.specs.Comparers.{order_named, name_of_order, with_comparer}
use Rattle.plain_model.specs.Plain.{Changed, of_pairs}
use Rattle.collections.specs.Changes.{rekeyed_by}
use Rattle.collections.specs.Kinds.{kind_of_pairs}
use Rattle.collections.proofs.Maps.{added}
use Rattle.collections.proofs.Comparers.{order_is_named, rekeyed_as}

kind_is : (old order : ValOrder) → with_comparer (kinds.SMap old) (name_of_order order) ≡ Some (kinds.SMap order)
kind_is old orders.Ordinal = refl
kind_is old orders.Reverse = refl
kind_is old orders.NoCase = refl

-- the pairs in this order, or the value of the first key that can't be added
abbrev under : ValOrder → Entries Val Val → Result (Entries Val Val) Val
under order ps = pairs_under val_cmp (order_cmp order) (eq_by_cmp (order_cmp order)) val_eq ps

abbrev map_in : ValOrder → ValOrder → Entries Val Val → Changed
map_in old order ps =
    of_pairs (kind_of_pairs (kinds.SMap order) ps) (map_rekey val_cmp (order_cmp order) (eq_by_cmp (order_cmp order)) val_eq (sameb the_type order old) ps)

map_named : (old order : ValOrder) (ps : Entries Val Val) → map_in old order ps ≡ rekeyed_by (name_of_order order) (kinds.SMap order) (kind_of_pairs (kinds.SMap old) ps)
map_named orders.Ordinal orders.Ordinal ps = refl
map_named orders.Ordinal orders.Reverse ps = added (kinds.SMap orders.Reverse) ps (under orders.Reverse ps)
map_named orders.Ordinal orders.NoCase ps = added (kinds.SMap orders.NoCase) ps (under orders.NoCase ps)
map_named orders.Reverse orders.Ordinal ps = added (kinds.SMap orders.Ordinal) ps (under orders.Ordinal ps)
map_named orders.Reverse orders.Reverse ps = refl
map_named orders.Reverse orders.NoCase ps = added (kinds.SMap orders.NoCase) ps (under orders.NoCase ps)
map_named orders.NoCase orders.Ordinal ps = added (kinds.SMap orders.Ordinal) ps (under orders.Ordinal ps)
map_named orders.NoCase orders.Reverse ps = added (kinds.SMap orders.Reverse) ps (under orders.Reverse ps)
map_named orders.NoCase orders.NoCase ps = refl

-- a map in the order of a comparer is the map under it
pub map_rekeyed : (old order : ValOrder) (comparer : Comparer) (kind : Kind) (ps : Entries Val Val)
    → order_named comparer ≡ Some order → with_comparer (kinds.SMap old) comparer ≡ Some kind
    → map_in old order ps ≡ rekeyed_by comparer kind (kind_of_pairs (kinds.SMap old) ps)
map_rekeyed old order comparer kind ps e f =
    rekeyed_as (kind_of_pairs (kinds.SMap old) ps) (name_of_order order) comparer (kinds.SMap order) kind (map_in old order ps)
    (kind_is old order) (order_is_named comparer order e) f (map_named old order ps)
