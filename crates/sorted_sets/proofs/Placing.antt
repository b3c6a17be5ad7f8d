-- A set's list, and the place of a value in it.
use Rattle.std.proofs.Common.{◌≡◌, ℕ, Bool, false, not, List, [], ◌∷◌, ap, sym, ◌∙◌, refl, subst}
use Rattle.std.specs.Prelude.{filter}
use Rattle.std.specs.Cmp.{IsTotalOrder, eq_by_cmp_equiv}
use Rattle.std.specs.Ordering.{eq_by_cmp}
use Rattle.std.specs.declared.cmp.Ordering.{Ordering}
use Rattle.std.proofs.Math.Bool.{or-false}
use Rattle.imm_base.specs.Lists.{is_unsorted}
use Rattle.imm_base.specs.Sets.{difference}
use Rattle.imm_base.specs.Kept.{IsBelowAll, Rises, IsSet, CanKeep}
use Rattle.imm_base.proofs.Inserted.{put}
use Rattle.imm_base.proofs.KeptSets.{set_filter, set_insert, keep_by_order}
use Rattle.avl_node.proofs.Keyed.{without, IsKeyAt, IsKeyMissingAt}
use Rattle.avl_node.specs.Search.{IsFoundAt, IsMissingAt}
use Rattle.avl_node.proofs.Keys.{key_at, key_missing_at}
use Rattle.sorted_sets.specs.Placed.{IsAt, IsAbsentAt}

module _ {T : Type 0} (cmp : T → T → Ordering) (total : IsTotalOrder cmp) where
  pub sorted_from_rises : (xs : List T) → Rises cmp xs → is_unsorted cmp xs ≡ false
  sorted_from_rises [] up = refl
  sorted_from_rises (x ∷ []) up = refl
  sorted_from_rises (x ∷ y ∷ ys) up = rw up.0.0 (sorted_from_rises (y ∷ ys) up.1)

  pub put_front : (x : T) (xs : List T) → IsBelowAll cmp x xs → put cmp x xs ≡ x ∷ xs
  put_front x [] up = refl
  put_front x (y ∷ ys) up = rw up.0 refl

  module _ (v : T) (xs : List T) (i : ℕ) (is : IsSet cmp (eq_by_cmp cmp) xs) where
    -- without v: without the one element v
    without_one : without (λ x. x) cmp v xs ≡ difference (eq_by_cmp cmp) xs (v ∷ [])
    without_one = ap (λ (p : T → Bool). filter (λ x. not (p x)) xs) (λ j x. ((eq_by_cmp_equiv total).symm v x ∙ sym (or-false (eq_by_cmp cmp x v))) j)

    pub is_at : IsFoundAt (λ x. cmp x v) xs i → IsAt cmp v xs i
    is_at f =
        let k : IsKeyAt (λ (x : T). x) cmp v xs i = key_at (λ x. x) cmp total v xs i is.rises f.equal in
        let removed = k.removed ∙ without_one in
        record {
          there = k.there;
          inside = k.inside;
          element = k.element;
          search = f.index;
          removed = removed;
          set = subst (λ (ys : List T). IsSet cmp (eq_by_cmp cmp) ys) (sym removed) (set_filter cmp (eq_by_cmp cmp) _ xs is);
        }

    pub is_absent_at : IsMissingAt (λ x. cmp x v) xs i → IsAbsentAt cmp v xs i
    is_absent_at m =
        let k : IsKeyMissingAt (λ (x : T). x) cmp v xs i = key_missing_at (λ x. x) cmp total v xs i is.rises m.place m.equal in
        let keep : CanKeep cmp (eq_by_cmp cmp) = keep_by_order cmp total in
        let inserted = k.inserted v refl in
        record {
          missing = k.missing;
          inside = k.inside;
          none = k.none;
          whole = sym without_one ∙ k.whole;
          search = m.index;
          inserted = inserted;
          set = subst (λ (ys : List T). IsSet cmp (eq_by_cmp cmp) ys) (sym inserted) (set_insert cmp (eq_by_cmp cmp) keep.total keep.equal keep.ties v xs k.missing is);
        }
