-- Which elements stay: a stable sort, the first of each run, and another sort keep what `firsts` says.
use Rattle.std.proofs.Common.{◌≡◌, Bool, true, false, cond, ◌||◌, List, [], ◌∷◌, ap, sym, ◌∙◌, refl, subst}
use Rattle.std.specs.Prelude.{fold}
use Rattle.std.specs.List.{list_any, dedup, dedup_from}
use Rattle.std.specs.Cmp.{IsTotalOrder, alike_right}
use Rattle.std.specs.Ordering.{is_lt, is_eq, eq_by_cmp, ordering_reverse}
use Rattle.std.specs.declared.cmp.Ordering.{Ordering}
use Rattle.std.specs.declared.cmp.Ordering.TheVariants.{Less, Equal, Greater}
use Rattle.imm_base.specs.Lists.{insert_sorted, sorted}
use Rattle.imm_base.specs.Sets.{has, with_element, union}
use Rattle.imm_base.proofs.Inserted.{put, insert_sorted_is_put, list_any-put}
use Rattle.imm_base.proofs.KeptSets.{or_no}
use Rattle.imm_base.proofs.Reordered.{Ascends, IsUnder, ascends_put}
use Rattle.frozen_sets.specs.Kept.{TiesToo, firsts}

module _ {T : Type 0} (cmp : T → T → Ordering) (total : IsTotalOrder cmp) where
  less : (a b : T) → is_lt (cmp a b) ≡ true → cmp a b ≡ Less
  less a b e = elim (cmp a b) as (λ o. is_lt o ≡ true → o ≡ Less) [
    | Less ↦ λ _. refl
    | Equal ↦ λ f. absurd cc
    | Greater ↦ λ f. absurd cc
  ] e

  back : (a b : T) → cmp a b ≡ Less → cmp b a ≡ Greater
  back a b e = total.antisymm b a ∙ ap ordering_reverse e

  not_back : (a b : T) → cmp a b ≡ Less → is_lt (cmp b a) ≡ false
  not_back a b e = ap is_lt (back a b e)

  apart : (a b : T) → cmp a b ≡ Less → is_eq (cmp b a) ≡ false
  apart a b e = ap is_eq (back a b e)

  -- b is not less than a, and not equal to it
  less_from : (a b : T) → is_lt (cmp b a) ≡ false → is_eq (cmp b a) ≡ false → cmp a b ≡ Less
  less_from a b f g = elim (cmp b a) as (λ o. cmp b a ≡ o → cmp a b ≡ Less) [
    | Less ↦ λ e. absurd (let h = sym f ∙ ap is_lt e in cc)
    | Equal ↦ λ e. absurd (let h = sym g ∙ ap is_eq e in cc)
    | Greater ↦ λ e. total.antisymm a b ∙ ap ordering_reverse e
  ] refl

  -- a < b, and c is not less than b
  less_far : (a b c : T) → cmp a b ≡ Less → is_lt (cmp c b) ≡ false → cmp a c ≡ Less
  less_far a b c e f = elim (cmp b c) as (λ o. cmp b c ≡ o → cmp a c ≡ Less) [
    | Less ↦ λ g. total.trans a b c e g
    | Equal ↦ λ g. sym (alike_right total b c a g) ∙ e
    | Greater ↦ λ g. absurd (let h : cmp c b ≡ Less = total.antisymm c b ∙ ap ordering_reverse g in let i = sym f ∙ ap is_lt h in cc)
  ] refl

  -- b is not less than a, and b < c
  far_less : (a b c : T) → is_lt (cmp b a) ≡ false → cmp b c ≡ Less → cmp a c ≡ Less
  far_less a b c f e = elim (cmp a b) as (λ o. cmp a b ≡ o → cmp a c ≡ Less) [
    | Less ↦ λ g. total.trans a b c g e
    | Equal ↦ λ g. total.congr a b c g ∙ e
    | Greater ↦ λ g. absurd (let h : cmp b a ≡ Less = total.antisymm b a ∙ ap ordering_reverse g in let i = sym f ∙ ap is_lt h in cc)
  ] refl

  -- ---- the first of each run

  abbrev same : T → T → Bool
  same x y = eq_by_cmp cmp x y

  -- x in its place, where no equal element is there
  abbrev with : T → List T → List T
  with x xs = cond (has same x xs) xs (put cmp x xs)

  under_run : (x k : T) (ys : List T) → IsUnder cmp x (k ∷ ys) → IsUnder cmp x (dedup_from same k ys)
  under_run x k [] low = low
  under_run x k (y ∷ ys) low = elim (same y k) as (λ t. IsUnder cmp x (cond t (dedup_from same k ys) (k ∷ dedup_from same y ys))) [
    | true ↦ under_run x k ys (low.0, low.1.1)
    | false ↦ (low.0, under_run x y ys low.1)
  ]

  under_has : (x : T) (ys : List T) → IsUnder cmp x ys → has same x ys ≡ false
  under_has x [] low = refl
  under_has x (y ∷ ys) low = rw (less x y low.0) (under_has x ys low.1)

  under_put : (x : T) (ys : List T) → IsUnder cmp x ys → put cmp x ys ≡ x ∷ ys
  under_put x [] low = refl
  under_put x (y ∷ ys) low = rw low.0 refl

  under_rest : (x y : T) (ys : List T) → cmp x y ≡ Less → Ascends cmp (y ∷ ys) → IsUnder cmp x ys
  under_rest x y [] e up = tt
  under_rest x y (z ∷ zs) e up = (ap is_lt (less_far x y z e up.0.0), under_rest x y zs e (up.0.1, up.1.1))

  -- an element more in a run of which k was kept
  with_run : (x k : T) (ys : List T) → is_lt (cmp x k) ≡ false → Ascends cmp (k ∷ ys) → dedup_from same k (put cmp x ys) ≡ with x (dedup_from same k ys)
  with_run x k [] le up = rw le (elim (same x k) as (λ t. cond t (k ∷ []) (k ∷ x ∷ []) ≡ cond (t || false) (k ∷ []) (k ∷ x ∷ [])) [ true ↦ refl | false ↦ refl ])
  with_run x k (y ∷ ys) le up = elim (is_lt (cmp x y)) as (λ t. is_lt (cmp x y) ≡ t → dedup_from same k (cond t (x ∷ y ∷ ys) (y ∷ put cmp x ys)) ≡ with x (dedup_from same k (y ∷ ys))) [
    | true ↦ λ e. (
        let below : cmp x y ≡ Less = less x y e in
        let before : same y k ≡ false = apart k y (far_less k x y le below) in
        let behind : same y x ≡ false = apart x y below in
        let low : IsUnder cmp x (dedup_from same y ys) = under_run x y ys (e, under_rest x y ys below up.1) in
        rw (before, behind, under_has x (dedup_from same y ys) low, under_put x (dedup_from same y ys) low, le) (elim (same x k) as (λ t. cond t (k ∷ dedup_from same y ys) (k ∷ x ∷ dedup_from same y ys) ≡ cond (t || false) (k ∷ dedup_from same y ys) (k ∷ x ∷ dedup_from same y ys)) [ true ↦ refl | false ↦ refl ])
        )
    | false ↦ λ e. (elim (same y k) as (λ t. same y k ≡ t → cond t (dedup_from same k (put cmp x ys)) (k ∷ dedup_from same y (put cmp x ys)) ≡ with x (cond t (dedup_from same k ys) (k ∷ dedup_from same y ys))) [
      | true ↦ λ f. with_run x k ys le (up.0.1, up.1.1)
      | false ↦ λ f. (
          let far : same x k ≡ false = apart k x (less_far k y x (less_from k y up.0.0 f) e) in
          rw (far, le, with_run x y ys e up.1) (elim (has same x (dedup_from same y ys)) as (λ t. k ∷ cond t (dedup_from same y ys) (put cmp x (dedup_from same y ys)) ≡ cond t (k ∷ dedup_from same y ys) (k ∷ put cmp x (dedup_from same y ys))) [ true ↦ refl | false ↦ refl ])
          )
    ] refl)
  ] refl

  with_first : (x : T) (ys : List T) → Ascends cmp ys → dedup same (put cmp x ys) ≡ with x (dedup same ys)
  with_first x [] up = refl
  with_first x (y ∷ ys) up = elim (is_lt (cmp x y)) as (λ t. is_lt (cmp x y) ≡ t → dedup same (cond t (x ∷ y ∷ ys) (y ∷ put cmp x ys)) ≡ with x (dedup_from same y ys)) [
    | true ↦ λ e. (
        let below : cmp x y ≡ Less = less x y e in
        let behind : same y x ≡ false = apart x y below in
        let low : IsUnder cmp x (dedup_from same y ys) = under_run x y ys (e, under_rest x y ys below up) in
        rw (behind, under_has x (dedup_from same y ys) low, under_put x (dedup_from same y ys) low) refl
        )
    | false ↦ λ e. with_run x y ys e up
  ] refl

  with_is : (x : T) (xs : List T) → with x xs ≡ with_element cmp same x xs
  with_is x xs = ap (λ t. cond (has same x xs) xs t) (sym (insert_sorted_is_put cmp x xs))

  runs_of : (done xs : List T) → Ascends cmp done → dedup same (fold (λ ys x. insert_sorted cmp x ys) done xs) ≡ union cmp same (dedup same done) xs
  runs_of done [] up = refl
  runs_of done (x ∷ xs) up =
      let more : Ascends cmp (insert_sorted cmp x done) = subst (Ascends cmp) (sym (insert_sorted_is_put cmp x done)) (ascends_put cmp total x done up) in
      runs_of (insert_sorted cmp x done) xs more
      ∙ ap (λ ys. union cmp same ys xs) (ap (dedup same) (insert_sorted_is_put cmp x done) ∙ with_first x done up ∙ with_is x (dedup same done))

  -- of a sorted list the first of each run
  pub firsts_of_sorted : (xs : List T) → dedup same (sorted cmp xs) ≡ firsts cmp cmp xs
  firsts_of_sorted xs = runs_of [] xs tt

  -- ---- elements that differ may be put in either way round

  put_less : (a b : T) → cmp a b ≡ Less → (ys : List T) → put cmp a (put cmp b ys) ≡ put cmp b (put cmp a ys)
  put_less a b e [] = rw (not_back a b e, e) refl
  put_less a b e (y ∷ ys) = elim (is_lt (cmp b y)) as (λ t. is_lt (cmp b y) ≡ t → put cmp a (cond t (b ∷ y ∷ ys) (y ∷ put cmp b ys)) ≡ put cmp b (put cmp a (y ∷ ys))) [
    | true ↦ λ f. (let far : cmp a y ≡ Less = total.trans a b y e (less b y f) in rw (e, far, not_back a b e, f) refl)
    | false ↦ λ f. (elim (is_lt (cmp a y)) as (λ t. is_lt (cmp a y) ≡ t → cond t (a ∷ y ∷ put cmp b ys) (y ∷ put cmp a (put cmp b ys)) ≡ put cmp b (cond t (a ∷ y ∷ ys) (y ∷ put cmp a ys))) [
      | true ↦ λ g. rw (not_back a b e, f) refl
      | false ↦ λ g. rw (f, put_less a b e ys) refl
    ] refl)
  ] refl

  pub put_apart : (a b : T) (ys : List T) → is_eq (cmp a b) ≡ false → put cmp a (put cmp b ys) ≡ put cmp b (put cmp a ys)
  put_apart a b ys f = elim (cmp a b) as (λ o. cmp a b ≡ o → put cmp a (put cmp b ys) ≡ put cmp b (put cmp a ys)) [
    | Less ↦ λ e. put_less a b e ys
    | Equal ↦ λ e. absurd (let g = sym f ∙ ap is_eq e in cc)
    | Greater ↦ λ e. sym (put_less b a (total.antisymm b a ∙ ap ordering_reverse e) ys)
  ] refl

  apart_back : (a b : T) → is_eq (cmp a b) ≡ false → is_eq (cmp b a) ≡ false
  apart_back a b f = elim (cmp a b) as (λ o. cmp a b ≡ o → is_eq (cmp b a) ≡ false) [
    | Less ↦ λ e. apart a b e
    | Equal ↦ λ e. absurd (let g = sym f ∙ ap is_eq e in cc)
    | Greater ↦ λ e. ap is_eq (total.antisymm b a ∙ ap ordering_reverse e)
  ] refl

  -- ---- sorted, after they were kept in another order

  abbrev inserted : List T → List T → List T
  inserted done xs = fold (λ ys x. insert_sorted cmp x ys) done xs

  inserted_put : (x : T) (done xs : List T) → has same x xs ≡ false → inserted (put cmp x done) xs ≡ put cmp x (inserted done xs)
  inserted_put x done [] none = refl
  inserted_put x done (y ∷ ys) none =
      let parts = or_no (same x y) (has same x ys) none in
      ap (λ t. inserted t ys) (insert_sorted_is_put cmp y (put cmp x done) ∙ put_apart y x done (apart_back x y parts.0) ∙ ap (λ t. put cmp x t) (sym (insert_sorted_is_put cmp y done)))
      ∙ inserted_put x (insert_sorted cmp y done) ys parts.1

  put_inserted : (other : T → T → Ordering) (x : T) (done xs : List T) → has same x xs ≡ false → inserted done (put other x xs) ≡ put cmp x (inserted done xs)
  put_inserted other x done [] none = insert_sorted_is_put cmp x done
  put_inserted other x done (y ∷ ys) none = elim (is_lt (other x y)) as (λ t. inserted done (cond t (x ∷ y ∷ ys) (y ∷ put other x ys)) ≡ put cmp x (inserted done (y ∷ ys))) [
    | true ↦ ap (λ t. inserted t (y ∷ ys)) (insert_sorted_is_put cmp x done) ∙ inserted_put x done (y ∷ ys) none
    | false ↦ put_inserted other x (insert_sorted cmp y done) ys (or_no (same x y) (has same x ys) none).1
  ]

  any_inserted : (p : T → Bool) (done xs : List T) → list_any p (inserted done xs) ≡ (list_any p xs || list_any p done)
  any_inserted p done [] = refl
  any_inserted p done (x ∷ xs) =
      any_inserted p (insert_sorted cmp x done) xs ∙ ap (λ t. list_any p xs || list_any p t) (insert_sorted_is_put cmp x done) ∙ ap (λ t. list_any p xs || t) (list_any-put cmp p x done)
      ∙ (elim (list_any p xs) as (λ t. (t || (p x || list_any p done)) ≡ ((p x || t) || list_any p done)) [
        | true ↦ (elim (p x) as (λ t. true ≡ ((t || true) || list_any p done)) [ true ↦ refl | false ↦ refl ])
        | false ↦ (elim (p x) as (λ t. (t || list_any p done) ≡ ((t || false) || list_any p done)) [ true ↦ refl | false ↦ refl ])
      ])

  any_sorted : (p : T → Bool) (xs : List T) → list_any p (sorted cmp xs) ≡ list_any p xs
  any_sorted p xs = any_inserted p [] xs ∙ (elim (list_any p xs) as (λ t. (t || false) ≡ t) [ true ↦ refl | false ↦ refl ])

  module _ (by : T → T → Ordering) (ties : TiesToo cmp by) where
    differ : (x : T) (xs : List T) → has (eq_by_cmp by) x xs ≡ false → has same x xs ≡ false
    differ x [] none = refl
    differ x (y ∷ ys) none =
        let parts = or_no (is_eq (by x y)) (has (eq_by_cmp by) x ys) none in
        elim (cmp x y) as (λ o. cmp x y ≡ o → (is_eq o || has same x ys) ≡ false) [
          | Less ↦ λ _. differ x ys parts.1
          | Equal ↦ λ e. absurd (let f = sym parts.0 ∙ ap is_eq (ties x y e) in cc)
          | Greater ↦ λ _. differ x ys parts.1
        ] refl

    sorted_with : (x : T) (xs : List T) → sorted cmp (with_element by (eq_by_cmp by) x xs) ≡ with_element cmp (eq_by_cmp by) x (sorted cmp xs)
    sorted_with x xs = rw (any_sorted (eq_by_cmp by x) xs) (elim (has (eq_by_cmp by) x xs) as (λ t. has (eq_by_cmp by) x xs ≡ t → sorted cmp (cond t xs (insert_sorted by x xs)) ≡ cond t (sorted cmp xs) (insert_sorted cmp x (sorted cmp xs))) [
      | true ↦ λ _. refl
      | false ↦ λ none. ap (sorted cmp) (insert_sorted_is_put by x xs) ∙ put_inserted by x [] xs (differ x xs none) ∙ sym (insert_sorted_is_put cmp x (sorted cmp xs))
    ] refl)

    sorted_union : (done xs : List T) → sorted cmp (union by (eq_by_cmp by) done xs) ≡ union cmp (eq_by_cmp by) (sorted cmp done) xs
    sorted_union done [] = refl
    sorted_union done (x ∷ xs) = sorted_union (with_element by (eq_by_cmp by) x done) xs ∙ ap (λ t. union cmp (eq_by_cmp by) t xs) (sorted_with x done)

    -- the first of the equal elements, sorted otherwise
    pub sorted_firsts : (xs : List T) → sorted cmp (firsts by by xs) ≡ firsts cmp by xs
    sorted_firsts xs = sorted_union [] xs
