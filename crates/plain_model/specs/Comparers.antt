-- The comparers of kinds: the one that a kind has, and those that it may have.
use Rattle.std.specs.Prelude.{Bool, true, false, Option, Some, None, option_map}
use Rattle.std.specs.Option.{option_map_or}
use Rattle.imm_base.specs.declared.comparers.ValOrder.{ValOrder}
use Rattle.imm_base.specs.declared.comparers.ValOrder.TheVariants as orders
use Rattle.imm_base.specs.declared.comparers.ValEq.{ValEq}
use Rattle.imm_base.specs.declared.comparers.ValEq.TheVariants as equalities
use Rattle.plain_model.specs.declared.plain.Kind.{Kind}
use Rattle.plain_model.specs.declared.plain.Kind.TheVariants as kinds
use Rattle.plain_model.specs.declared.plain.Comparer.{Comparer}
use Rattle.plain_model.specs.declared.plain.Comparer.TheVariants as comparers

-- the order of this name
abbrev pub order_named : Comparer → Option ValOrder
order_named comparers.Ordinal = Some orders.Ordinal
order_named comparers.Reverse = Some orders.Reverse
order_named comparers.NoCase = Some orders.NoCase
order_named comparers.One = None

-- the equality of this name
abbrev pub equality_named : Comparer → Option ValEq
equality_named comparers.Ordinal = Some equalities.Ordinal
equality_named comparers.NoCase = Some equalities.NoCase
equality_named comparers.One = Some equalities.One
equality_named comparers.Reverse = None

abbrev pub name_of_order : ValOrder → Comparer
name_of_order orders.Ordinal = comparers.Ordinal
name_of_order orders.Reverse = comparers.Reverse
name_of_order orders.NoCase = comparers.NoCase

abbrev pub name_of_equality : ValEq → Comparer
name_of_equality equalities.Ordinal = comparers.Ordinal
name_of_equality equalities.NoCase = comparers.NoCase
name_of_equality equalities.One = comparers.One

-- the comparer of a kind, where it has one
abbrev pub comparer_of : Kind → Option Comparer
comparer_of (kinds.SSet order) = Some (name_of_order order)
comparer_of (kinds.SMap order) = Some (name_of_order order)
comparer_of (kinds.Dict eq) = Some (name_of_equality eq)
comparer_of (kinds.HSet eq) = Some (name_of_equality eq)
comparer_of _ = None

-- the kind with another comparer, where it may have it
abbrev pub with_comparer : Kind → Comparer → Option Kind
with_comparer (kinds.SSet order) comparer = option_map kinds.SSet (order_named comparer)
with_comparer (kinds.SMap order) comparer = option_map kinds.SMap (order_named comparer)
with_comparer (kinds.Dict eq) comparer = option_map kinds.Dict (equality_named comparer)
with_comparer (kinds.HSet eq) comparer = option_map kinds.HSet (equality_named comparer)
with_comparer _ comparer = None

abbrev pub comparer_eq : Comparer → Comparer → Bool
comparer_eq comparers.Ordinal comparers.Ordinal = true
comparer_eq comparers.Reverse comparers.Reverse = true
comparer_eq comparers.NoCase comparers.NoCase = true
comparer_eq comparers.One comparers.One = true
comparer_eq _ _ = false

-- the comparer is the kind's own
abbrev pub has_comparer : Kind → Comparer → Bool
has_comparer kind comparer = option_map_or (comparer_eq comparer) (comparer_of kind) false
