-- What stays is what the definitions of frozen collections say.
use Rattle.std.proofs.Common.{◌≡◌, true, List, reverse, sym, ◌∙◌, refl, subst}
use Rattle.std.specs.Cmp.{Equal-is}
use Rattle.std.specs.Ordering.{is_eq, on}
use Rattle.imm_base.specs.declared.val.Val.{Val}
use Rattle.imm_base.specs.declared.comparers.ValOrder.TheVariants as orders
use Rattle.imm_base.specs.declared.comparers.ValEq.{ValEq}
use Rattle.imm_base.specs.declared.comparers.ValEq.TheVariants as equalities
use Rattle.imm_base.specs.Kept.{AreTiesSame}
use Rattle.imm_base.specs.Maps.{Entries}
use Rattle.imm_base.specs.Order.{val_cmp, order_cmp, eq_same}
use Rattle.imm_base.specs.OrderLaws.{val_cmp_total, val_exact, eq_equivalence}
use Rattle.plain_model.specs.Frozen.{frozen_elements, frozen_pairs}
use Rattle.frozen_sets.specs.Kept.{TiesToo, firsts, order_of}
use Rattle.frozen_sets.proofs.Latter.{latter_is}

ties_same : (eq : ValEq) → AreTiesSame val_cmp (eq_same eq)
ties_same eq a b e = subst (λ (c : Val). eq_same eq a c ≡ true) (val_exact a b e) ((eq_equivalence eq).refl a)

is_same : (eq : ValEq) (a b : Val) → eq_same eq a b ≡ is_eq (order_cmp (order_of eq) a b)
is_same equalities.Ordinal a b = refl
is_same equalities.NoCase a b = refl
is_same equalities.One a b = refl

pub ties_too : (eq : ValEq) → TiesToo (order_cmp orders.Ordinal) (order_cmp (order_of eq))
ties_too eq a b e = (Equal-is (order_cmp (order_of eq) a b)).0 (sym (is_same eq a b) ∙ ties_same eq a b e)

pub key_ties_too : {V : Type 0} (eq : ValEq) → TiesToo {T = Val × V} (on (λ e. e.0) (order_cmp orders.Ordinal)) (on (λ e. e.0) (order_cmp (order_of eq)))
key_ties_too eq a b e = ties_too eq a.0 b.0 e

pub elements_are : (eq : ValEq) (xs : List Val) → firsts (order_cmp orders.Ordinal) (order_cmp (order_of eq)) xs ≡ frozen_elements eq xs
elements_are equalities.Ordinal xs = refl
elements_are equalities.NoCase xs = refl
elements_are equalities.One xs = refl

pub pairs_are : {V : Type 0} (eq : ValEq) (ps : Entries Val V) → firsts (on (λ e. e.0) (order_cmp orders.Ordinal)) (on (λ e. e.0) (order_cmp (order_of eq))) (reverse ps) ≡ frozen_pairs eq ps
pairs_are equalities.Ordinal ps = sym (latter_is val_cmp (eq_same equalities.Ordinal) val_cmp_total (eq_equivalence equalities.Ordinal) (ties_same equalities.Ordinal) ps)
pairs_are equalities.NoCase ps = sym (latter_is val_cmp (eq_same equalities.NoCase) val_cmp_total (eq_equivalence equalities.NoCase) (ties_same equalities.NoCase) ps)
pairs_are equalities.One ps = sym (latter_is val_cmp (eq_same equalities.One) val_cmp_total (eq_equivalence equalities.One) (ties_same equalities.One) ps)
