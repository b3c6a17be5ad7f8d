-- What the edits of a tree of buckets make of its elements in ordinal order.
use Rattle.std.proofs.Common.{◌≡◌, Bool, true, false, not, cond, ◌||◌, List, [], ◌∷◌, ap, sym, ◌∙◌, refl, subst}
use Rattle.std.specs.Prelude.{filter}
use Rattle.std.specs.List.{list_any}
use Rattle.std.specs.Cmp.{IsTotalOrder, IsEquivalence}
use Rattle.std.specs.declared.cmp.Ordering.{Ordering}
use Rattle.std.proofs.Math.Bool.{or-false}
use Rattle.imm_base.specs.Kept.{IsExact}
use Rattle.imm_base.specs.Lists.{insert_sorted, sorted}
use Rattle.imm_base.specs.Sets.{has, difference}
use Rattle.imm_base.proofs.Reordered.{list_any-sorted, sorted-insert, sorted-filter}
use Rattle.hash_bucket.specs.Rows.{others, with_same}
use Rattle.hash_bucket.proofs.Hashes.{all_kept}

module _ {T : Type 0} (same : T → T → Bool) (equal : IsEquivalence same) (v : T) where
  others_are_difference : (xs : List T) → others (same v) xs ≡ difference same xs (v ∷ [])
  others_are_difference [] = refl
  others_are_difference (x ∷ xs) =
      rw (equal.symm v x, others_are_difference xs) (ap (λ t. cond (not t) (x ∷ difference same xs (v ∷ [])) (difference same xs (v ∷ []))) (sym (or-false (same x v))))

  -- where no element is same to v, there is nothing to leave out
  pub difference_whole : (xs : List T) → has same v xs ≡ false → xs ≡ difference same xs (v ∷ [])
  difference_whole xs none = sym (all_kept (same v) xs none) ∙ others_are_difference xs

module _ {T : Type 0} (cmp : T → T → Ordering) (total : IsTotalOrder cmp) (exact : IsExact cmp) (same : T → T → Bool) (v : T) (xs ys : List T) (is : sorted cmp xs ≡ ys) where
  pub has-sorted : has same v xs ≡ has same v ys
  has-sorted = sym (list_any-sorted cmp total exact (same v) xs) ∙ ap (list_any (same v)) is

  -- an element that no other is same to
  pub inserted-sorted : (other : T → T → Ordering) (zs : List T) → has same v ys ≡ false → zs ≡ with_same other same v xs → sorted cmp zs ≡ insert_sorted cmp v ys
  inserted-sorted other zs none made =
      ap (sorted cmp) made ∙ sorted-insert cmp total exact other v (others (same v) xs)
      ∙ ap (λ t. insert_sorted cmp v (sorted cmp t)) (all_kept (same v) xs (has-sorted ∙ none)) ∙ ap (insert_sorted cmp v) is

  pub removed-sorted : IsEquivalence same → (zs : List T) → zs ≡ others (same v) xs → sorted cmp zs ≡ difference same ys (v ∷ [])
  removed-sorted equal zs made =
      ap (sorted cmp) made ∙ sorted-filter cmp total exact (λ x. not (same v x)) xs ∙ ap (others (same v)) is ∙ others_are_difference same equal v ys
