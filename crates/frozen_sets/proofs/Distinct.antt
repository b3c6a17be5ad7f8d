-- Where no two are equal, each is the first of its kind.
use Rattle.std.proofs.Common.{◌≡◌, ℕ, suc, ◌+◌, ◌≤◌, Bool, true, false, not, cond, ◌||◌, ◌&&◌, List, [], ◌∷◌, length, map, arith, ap, sym, ◌∙◌, refl, eqb}
use Rattle.std.specs.List.{list_any}
use Rattle.std.specs.Cmp.{IsTotalOrder, IsEquivalence, eq_by_cmp_equiv}
use Rattle.std.specs.Ordering.{eq_by_cmp}
use Rattle.std.specs.declared.cmp.Ordering.{Ordering}
use Rattle.imm_base.specs.Lists.{insert_sorted}
use Rattle.imm_base.specs.Sets.{has, union}
use Rattle.imm_base.proofs.Inserted.{put, insert_sorted_is_put, length-put, list_any-put}
use Rattle.imm_base.proofs.Combined.{union_at_most}
use Rattle.plain_model.specs.Frozen.{are_distinct}
use Rattle.frozen_sets.specs.Kept.{firsts}

-- of what is computed from each
module _ {A B : Type 0} (f : A → B) (eq : B → B → Bool) (same : A → A → Bool) (alike : (a b : A) → same a b ≡ eq (f a) (f b)) where
  any_of : (a : A) (xs : List A) → list_any (eq (f a)) (map f xs) ≡ list_any (same a) xs
  any_of a [] = refl
  any_of a (x ∷ xs) = rw (sym (alike a x), any_of a xs) refl

  pub distinct_of : (xs : List A) → are_distinct eq (map f xs) ≡ are_distinct same xs
  distinct_of [] = refl
  distinct_of (x ∷ xs) = rw (any_of x xs, distinct_of xs) refl

module _ {T : Type 0} (cmp : T → T → Ordering) (total : IsTotalOrder cmp) where
  abbrev same : T → T → Bool
  same x y = eq_by_cmp cmp x y

  -- some element is in the list
  abbrev meets : List T → List T → Bool
  meets xs done = list_any (λ x. has same x done) xs

  equal : IsEquivalence same
  equal = eq_by_cmp_equiv total

  meets_put : (x : T) (xs done : List T) → meets xs (put cmp x done) ≡ (has same x xs || meets xs done)
  meets_put x [] done = refl
  meets_put x (y ∷ ys) done =
      rw (list_any-put cmp (same y) x done, meets_put x ys done, equal.symm y x) (elim (same x y) as (λ t. ((t || has same y done) || (has same x ys || meets ys done)) ≡ ((t || has same x ys) || (has same y done || meets ys done))) [
        | true ↦ refl
        | false ↦ (elim (has same y done) as (λ t. (t || (has same x ys || meets ys done)) ≡ (has same x ys || (t || meets ys done))) [
          | true ↦ (elim (has same x ys) as (λ t. true ≡ (t || true)) [ true ↦ refl | false ↦ refl ])
          | false ↦ refl
        ])
      ])

  all_first : (done xs : List T) → eqb (length (union cmp same done xs)) (length done + length xs) ≡ (are_distinct same xs && not (meets xs done))
  all_first done [] = grind arith
  all_first done (x ∷ xs) = elim (has same x done) as (λ t. eqb (length (union cmp same (cond t done (insert_sorted cmp x done)) xs)) (length done + suc (length xs)) ≡ ((not (has same x xs) && are_distinct same xs) && not (t || meets xs done))) [
    | true ↦ (
        let short : length (union cmp same done xs) ≤ length done + length xs = union_at_most cmp same done xs in
        let less : eqb (length (union cmp same done xs)) (length done + suc (length xs)) ≡ false = grind arith in
        less ∙ (elim (not (has same x xs) && are_distinct same xs) as (λ t. false ≡ (t && false)) [ true ↦ refl | false ↦ refl ])
        )
    | false ↦ (
        let more : length (insert_sorted cmp x done) + length xs ≡ length done + suc (length xs) = omega (arith, ap length (insert_sorted_is_put cmp x done), length-put cmp x done) in
        ap (λ (n : ℕ). eqb (length (union cmp same (insert_sorted cmp x done) xs)) n) (sym more)
        ∙ all_first (insert_sorted cmp x done) xs
        ∙ ap (λ (ys : List T). are_distinct same xs && not (meets xs ys)) (insert_sorted_is_put cmp x done)
        ∙ rw (meets_put x xs done) (elim (has same x xs) as (λ t. (are_distinct same xs && not (t || meets xs done)) ≡ ((not t && are_distinct same xs) && not (meets xs done))) [
          | true ↦ (elim (are_distinct same xs) as (λ t. (t && false) ≡ false) [ true ↦ refl | false ↦ refl ])
          | false ↦ refl
        ])
        )
  ]

  none_met : (xs : List T) → meets xs [] ≡ false
  none_met [] = refl
  none_met (x ∷ xs) = none_met xs

  -- as many stay as there are
  pub distinct_is : (xs : List T) → eqb (length (firsts cmp cmp xs)) (length xs) ≡ are_distinct same xs
  distinct_is xs =
      ap (λ (n : ℕ). eqb (length (firsts cmp cmp xs)) n) (let e : length xs ≡ 0 + length xs = omega arith in e) ∙ all_first [] xs
      ∙ rw (none_met xs) (elim (are_distinct same xs) as (λ t. (t && true) ≡ t) [ true ↦ refl | false ↦ refl ])
