-- The elements of a set that some values have in common with it, found one after another.
use Rattle.std.proofs.Common.{◌≡◌, ℕ, ◌+◌, ◌<◌, Bool, true, false, cond, ◌||◌, Option, Some, None, List, [], ◌∷◌, ◌++◌, take, get_or, length, ap, sym, ◌∙◌, refl}
use Rattle.std.specs.List.{filter, find, list_any}
use Rattle.std.specs.Option.{option_map_or}
use Rattle.std.specs.Cmp.{IsTotalOrder, IsEquivalence}
use Rattle.std.specs.Ordering.{is_lt, ordering_reverse}
use Rattle.std.specs.declared.cmp.Ordering.{Ordering}
use Rattle.std.specs.declared.cmp.Ordering.TheVariants.{Less, Equal, Greater}
use Rattle.std.proofs.Math.Bool.{or-false}
use Rattle.std.proofs.lemmas.List.{take_more}
use Rattle.std.proofs.lemmas.List.Folds.{list_any-append}
use Rattle.imm_base.specs.Lists.{insert_sorted}
use Rattle.imm_base.specs.Sets.{has, same_in, intersection, with_element}
use Rattle.imm_base.specs.Kept.{IsBelowAll, Rises, AreDistinct, IsSet}
use Rattle.imm_base.proofs.Inserted.{put, insert_sorted_is_put}
use Rattle.imm_base.proofs.KeptSets.{or_no}
use Rattle.imm_dictionary.specs.Kept.{with_common}

module _ {T : Type 0} (cmp : T → T → Ordering) (same : T → T → Bool) (total : IsTotalOrder cmp) (equal : IsEquivalence same) where
  -- what passes a test in a list that is below x
  found_above : (p : T → Bool) (z x : T) (zs : List T) → IsBelowAll cmp z zs → find p zs ≡ Some x → cmp z x ≡ Less
  found_above p z x [] up e = absurd cc
  found_above p z x (y ∷ ys) up e =
      elim (p y) as (λ t. cond t (Some y) (find p ys) ≡ Some x → cmp z x ≡ Less) [
        | true ↦ λ f. (let is : y ≡ x = cc in ap (cmp z) (sym is) ∙ up.0)
        | false ↦ λ f. found_above p z x ys up.1 f
      ] e

  found_passes : (p : T → Bool) (x : T) (zs : List T) → find p zs ≡ Some x → p x ≡ true
  found_passes p x [] e = absurd cc
  found_passes p x (y ∷ ys) e = elim (p y) as (λ t. p y ≡ t → cond t (Some y) (find p ys) ≡ Some x → p x ≡ true) [
    | true ↦ λ at f. (let is : y ≡ x = cc in ap p (sym is) ∙ at)
    | false ↦ λ _ f. found_passes p x ys f
  ] refl e

  -- an element behind z
  with_behind : (z x : T) (zs : List T) → cmp z x ≡ Less → same x z ≡ false → with_element cmp same x (z ∷ zs) ≡ z ∷ with_element cmp same x zs
  with_behind z x zs less apart =
      let turned : cmp x z ≡ Greater = total.antisymm x z ∙ ap ordering_reverse less in
      let behind : insert_sorted cmp x (z ∷ zs) ≡ z ∷ insert_sorted cmp x zs = insert_sorted_is_put cmp x (z ∷ zs) ∙ rw turned refl ∙ ap (λ t. z ∷ t) (sym (insert_sorted_is_put cmp x zs)) in
      let there : has same x (z ∷ zs) ≡ has same x zs = rw apart refl in
      ap (λ t. cond t (z ∷ zs) (insert_sorted cmp x (z ∷ zs))) there ∙ ap (λ t. cond (has same x zs) (z ∷ zs) t) behind
      ∙ (elim (has same x zs) as (λ t. cond t (z ∷ zs) (z ∷ insert_sorted cmp x zs) ≡ z ∷ cond t zs (insert_sorted cmp x zs)) [ true ↦ refl | false ↦ refl ])

  -- an element that is less than all, and same to none of them
  in_front : (z : T) (zs : List T) → IsBelowAll cmp z zs → has same z zs ≡ false → with_element cmp same z zs ≡ z ∷ zs
  in_front z [] up none = insert_sorted_is_put cmp z []
  in_front z (y ∷ ys) up none = rw none (insert_sorted_is_put cmp z (y ∷ ys) ∙ rw up.0 refl)

  below_filter : (p : T → Bool) (x : T) (xs : List T) → IsBelowAll cmp x xs → IsBelowAll cmp x (filter p xs)
  below_filter p x [] up = tt
  below_filter p x (y ∷ ys) up = elim (p y) as (λ t. IsBelowAll cmp x (cond t (y ∷ filter p ys) (filter p ys))) [
    | true ↦ (up.0, below_filter p x ys up.1)
    | false ↦ below_filter p x ys up.1
  ]

  has_filter : (p : T → Bool) (x : T) (xs : List T) → has same x xs ≡ false → has same x (filter p xs) ≡ false
  has_filter p x [] e = refl
  has_filter p x (y ∷ ys) e = let parts = or_no (same x y) (has same x ys) e in
      elim (p y) as (λ t. has same x (cond t (y ∷ filter p ys) (filter p ys)) ≡ false) [
        | true ↦ rw parts.0 (has_filter p x ys parts.1)
        | false ↦ has_filter p x ys parts.1
      ]

  at_first : (z : T) (zs : List T) (b : Bool) → IsBelowAll cmp z zs → has same z zs ≡ false → with_element cmp same z (cond b (z ∷ zs) zs) ≡ z ∷ zs
  at_first z zs true up none = rw (equal.refl z) refl
  at_first z zs false up none = in_front z zs up none

  -- elements that the values us have in common with a set, and v with them
  module _ (us : List T) (v : T) where
    more : (z : T) → has same z (us ++ v ∷ []) ≡ (has same z us || (same z v || false))
    more z = list_any-append (same z) us (v ∷ [])

    no_more : (z : T) → same v z ≡ false → has same z (us ++ v ∷ []) ≡ has same z us
    no_more z apart = more z ∙ rw (equal.symm z v, apart) (or-false (has same z us))

    -- where v is same to none, it adds nothing
    nothing_more : (xs : List T) → has same v xs ≡ false → intersection same xs (us ++ v ∷ []) ≡ intersection same xs us
    nothing_more [] none = refl
    nothing_more (z ∷ zs) none =
        let parts = or_no (same v z) (has same v zs) none in
        ap (λ t. cond t (z ∷ intersection same zs (us ++ v ∷ [])) (intersection same zs (us ++ v ∷ []))) (no_more z parts.0)
        ∙ ap (λ t. cond (has same z us) (z ∷ t) t) (nothing_more zs parts.1)

    has_alike : (z : T) (xs : List T) → same v z ≡ true → has same v xs ≡ has same z xs
    has_alike z [] e = refl
    has_alike z (x ∷ xs) e = rw (equal.congr v z x e, has_alike z xs e) refl

    with_behind_found : (z : T) (zs ws : List T) (s : Option T) → same_in same v zs ≡ s → IsBelowAll cmp z zs → same v z ≡ false → option_map_or (λ x. with_element cmp same x (z ∷ ws)) s (z ∷ ws) ≡ z ∷ option_map_or (λ x. with_element cmp same x ws) s ws
    with_behind_found z zs ws None is up apart = refl
    with_behind_found z zs ws (Some x) is up apart =
        let passes : same v x ≡ true = found_passes (same v) x zs is in
        with_behind z x ws (found_above (same v) z x zs up is) (sym (equal.congr v x z passes) ∙ apart)

    one_more : (xs : List T) → Rises cmp xs → AreDistinct same xs → with_common cmp same v xs (intersection same xs us) ≡ intersection same xs (us ++ v ∷ [])
    one_more [] up distinct = refl
    one_more (z ∷ zs) up distinct =
        elim (same v z) as (λ t. same v z ≡ t → with_common cmp same v (z ∷ zs) (intersection same (z ∷ zs) us) ≡ intersection same (z ∷ zs) (us ++ v ∷ [])) [
          | true ↦ λ is.
              (let here : same_in same v (z ∷ zs) ≡ Some z = rw is refl in
              let there : has same z (us ++ v ∷ []) ≡ true = more z ∙ rw (equal.symm z v, is) (elim (has same z us) as (λ t. (t || true) ≡ true) [ true ↦ refl | false ↦ refl ]) in
              ap (λ s. option_map_or (λ x. with_element cmp same x (intersection same (z ∷ zs) us)) s (intersection same (z ∷ zs) us)) here
              ∙ at_first z (intersection same zs us) (has same z us) (below_filter (λ x. has same x us) z zs up.0) (has_filter (λ x. has same x us) z zs distinct.0)
              ∙ ap (λ t. z ∷ t) (sym (nothing_more zs (has_alike z zs is ∙ distinct.0)))
              ∙ sym (ap (λ t. cond t (z ∷ intersection same zs (us ++ v ∷ [])) (intersection same zs (us ++ v ∷ []))) there))
          | false ↦ λ is.
              (let on : same_in same v (z ∷ zs) ≡ same_in same v zs = rw is refl in
              let rest = one_more zs up.1 distinct.1 in
              ap (λ s. option_map_or (λ x. with_element cmp same x (intersection same (z ∷ zs) us)) s (intersection same (z ∷ zs) us)) on
              ∙ (elim (has same z us) as (λ t. option_map_or (λ x. with_element cmp same x (cond t (z ∷ intersection same zs us) (intersection same zs us))) (same_in same v zs) (cond t (z ∷ intersection same zs us) (intersection same zs us)) ≡ cond t (z ∷ intersection same zs (us ++ v ∷ [])) (intersection same zs (us ++ v ∷ []))) [
                | true ↦ with_behind_found z zs (intersection same zs us) (same_in same v zs) refl up.0 is ∙ ap (λ t. z ∷ t) rest
                | false ↦ rest
              ])
              ∙ sym (ap (λ t. cond t (z ∷ intersection same zs (us ++ v ∷ [])) (intersection same zs (us ++ v ∷ []))) (no_more z is)))
        ] refl

  pub intersection_next : (i : ℕ) (xs ys : List T) (v : T) → IsSet cmp same xs → i < length ys → v ≡ get_or ys i v → with_common cmp same v xs (intersection same xs (take i ys)) ≡ intersection same xs (take (i + 1) ys)
  intersection_next i xs ys v set below is =
      one_more (take i ys) v xs set.rises set.distinct ∙ ap (λ w. intersection same xs (take i ys ++ w ∷ [])) is ∙ ap (λ us. intersection same xs us) (sym (take_more ys i v below))

pub intersection_none : {T : Type 0} (same : T → T → Bool) (xs : List T) → intersection same xs [] ≡ []
intersection_none same [] = refl
intersection_none same (x ∷ xs) = intersection_none same xs
