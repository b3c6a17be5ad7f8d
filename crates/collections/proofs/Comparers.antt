-- The comparers that name orders and equalities.
use Rattle.std.proofs.Common.{◌≡◌, Some, ap, sym, ◌∙◌}
use Rattle.std.specs.Prelude.{unwrap_or}
use Rattle.imm_base.specs.declared.comparers.ValEq.{ValEq}
use Rattle.imm_base.specs.declared.comparers.ValEq.TheVariants as equalities
use Rattle.imm_base.specs.declared.comparers.ValOrder.{ValOrder}
use Rattle.imm_base.specs.declared.comparers.ValOrder.TheVariants as orders
use Rattle.plain_model.specs.declared.plain.Comparer.{Comparer}
use Rattle.plain_model.specs.declared.plain.Comparer.TheVariants as comparers
use Rattle.plain_model.specs.declared.plain.Kind.{Kind}
use Rattle.plain_model.specs.declared.plain.Kind.TheVariants as kinds
use Rattle.plain_model.specs.declared.plain.Plain.{Plain}
use Rattle.plain_model.specs.Comparers.{order_named, equality_named, name_of_order, name_of_equality, with_comparer}
use Rattle.plain_model.specs.Plain.{Changed}
use Rattle.collections.specs.Changes.{rekeyed_by}

-- an order has one name
pub order_is_named : (comparer : Comparer) (order : ValOrder) → order_named comparer ≡ Some order → comparer ≡ name_of_order order
order_is_named comparers.Ordinal order e = ap (λ o. name_of_order (unwrap_or o orders.Ordinal)) e
order_is_named comparers.Reverse order e = ap (λ o. name_of_order (unwrap_or o orders.Reverse)) e
order_is_named comparers.NoCase order e = ap (λ o. name_of_order (unwrap_or o orders.NoCase)) e
order_is_named comparers.One order e = cc

-- an equality has one name
pub equality_is_named : (comparer : Comparer) (eq : ValEq) → equality_named comparer ≡ Some eq → comparer ≡ name_of_equality eq
equality_is_named comparers.Ordinal eq e = ap (λ o. name_of_equality (unwrap_or o equalities.Ordinal)) e
equality_is_named comparers.NoCase eq e = ap (λ o. name_of_equality (unwrap_or o equalities.NoCase)) e
equality_is_named comparers.One eq e = ap (λ o. name_of_equality (unwrap_or o equalities.One)) e
equality_is_named comparers.Reverse eq e = cc

-- what a collection becomes under a comparer is what it becomes under the one of this name, with the kind that it has then
pub rekeyed_as : (p : Plain) (name comparer : Comparer) (own kind : Kind) (c : Changed)
    → with_comparer p.kind name ≡ Some own → comparer ≡ name → with_comparer p.kind comparer ≡ Some kind
    → c ≡ rekeyed_by name own p → c ≡ rekeyed_by comparer kind p
rekeyed_as p name comparer own kind c is named with e =
    let same : own ≡ kind = ap (λ k. unwrap_or k kinds.List) (sym is ∙ ap (λ n. with_comparer p.kind n) (sym named) ∙ with) in
    e ∙ ap (λ n. rekeyed_by n own p) (sym named) ∙ ap (λ k. rekeyed_by comparer k p) same
