-- Lists that rise by their keys: what stands at the place of a key, and what an edit there gives.
use Rattle.std.proofs.Common.{◌≡◌, ℕ, suc, zero, ◌+◌, true, false, not, cond, List, [], ◌∷◌, arith, ap, sym, ◌∙◌, refl, subst, None}
use Rattle.std.specs.Prelude.{drop, find, insert, map, remove, take}
use Rattle.std.specs.List.{AllByRecursion, list_any}
use Rattle.std.specs.Cmp.{IsTotalOrder, Equal-is, on_total, on_equiv, eq_by_cmp_equiv}
use Rattle.std.specs.Ordering.{is_lt, is_eq, on, eq_by_cmp, ordering_reverse}
use Rattle.std.specs.declared.cmp.Ordering.{Ordering}
use Rattle.std.specs.declared.cmp.Ordering.TheVariants.{Less, Equal, Greater}
use Rattle.std.proofs.lemmas.List.{map-set}
use Rattle.std.proofs.lemmas.Option.{slice_get-map}
use Rattle.imm_base.specs.Kept.{IsBelowAll, Rises}
use Rattle.imm_base.specs.Lists.{insert_sorted}
use Rattle.imm_base.proofs.Inserted.{insert_sorted_is_put}
use Rattle.imm_base.proofs.KeptMaps.{none_left}
use Rattle.imm_base.proofs.KeptSets.{rises_put, rises_filter}
use Rattle.avl_node.proofs.Keyed.{has_same_key, without, IsKeyAt, IsKeyMissingAt}
use Rattle.avl_node.specs.Sides.{lower_bound, is_equal_at, IsSplit, SidesAscend}
use Rattle.avl_node.proofs.SideLemmas.{place_cons_less, place_cons_level}

module _ {E K : Type 0} (key : E → K) (cmp : K → K → Ordering) (total : IsTotalOrder cmp) where
  -- an element with the key in place of the one that has it rises
  pub rises_with : (x : E) (xs : List E) → Rises (on key cmp) xs → Rises (on key cmp) (insert_sorted (on key cmp) x (without key cmp (key x) xs))
  rises_with x xs up =
      subst (Rises (on key cmp)) (sym (insert_sorted_is_put (on key cmp) x (without key cmp (key x) xs)))
      (rises_put (on key cmp) (on key (eq_by_cmp cmp)) (on_total key total) (on_equiv key (eq_by_cmp_equiv total)) (λ a b e. ap is_eq e)
      x (without key cmp (key x) xs) (none_left (has_same_key key cmp (key x)) xs) (rises_filter (on key cmp) (λ y. not (has_same_key key cmp (key x) y)) xs up))

  module _ (k : K) where
    -- how an element stands to the key
    abbrev side : E → Ordering
    side x = cmp (key x) k

    back : (x : E) (r : Ordering) → side x ≡ r → cmp k (key x) ≡ ordering_reverse r
    back x r is = total.antisymm k (key x) ∙ ap ordering_reverse is

    abbrev AllGreater : List E → Type 0
    AllGreater xs = AllByRecursion (λ x. side x ≡ Greater) xs

    greater_by : (x y : E) (r : Ordering) → side x ≡ r → is_lt r ≡ false → cmp (key x) (key y) ≡ Less → cmp k (key y) ≡ Less
    greater_by x y Less is level less = absurd cc
    greater_by x y Equal is level less = sym (total.congr (key x) k (key y) is) ∙ less
    greater_by x y Greater is level less = total.trans k (key x) (key y) (back x Greater is) less

    -- what is behind an element that is not less is greater
    all_greater : (x : E) (xs : List E) → is_lt (side x) ≡ false → IsBelowAll (on key cmp) x xs → AllGreater xs
    all_greater x [] level up = tt
    all_greater x (y ∷ ys) level up =
        (total.antisymm (key y) k ∙ ap ordering_reverse (greater_by x y (side x) refl level up.0), all_greater x ys level up.1)

    all_level : (xs : List E) → AllGreater xs → AllByRecursion (λ x. is_lt (side x) ≡ false) xs
    all_level [] all = tt
    all_level (x ∷ xs) all = (ap is_lt all.0, all_level xs all.1)

    split_from_rises : (xs : List E) → Rises (on key cmp) xs → IsSplit side xs
    split_from_rises [] up = tt
    split_from_rises (x ∷ xs) up =
        (λ level. all_level xs (all_greater x xs level up.0), λ more. all_greater x xs (ap is_lt more) up.0, split_from_rises xs up.1)

    pub ascend_from_rises : (xs : List E) → Rises (on key cmp) xs → SidesAscend side xs
    ascend_from_rises xs up = record { split = split_from_rises xs up }

    -- ---- one element before all that

    key_next : (x : E) (xs : List E) (i : ℕ) → side x ≡ Less → IsKeyAt key cmp k xs i → IsKeyAt key cmp k (x ∷ xs) (suc i)
    key_next x xs i is f =
        let turned : cmp k (key x) ≡ Greater = back x Less is in
        record {
          there = rw turned f.there;
          inside = omega (arith, f.inside);
          element = rw turned f.element;
          removed = rw turned (ap (λ t. x ∷ t) f.removed);
          replaced = λ y e.
              ap (λ t. x ∷ t) (f.replaced y e ∙ insert_sorted_is_put (on key cmp) y (without key cmp k xs))
              ∙ sym (insert_sorted_is_put (on key cmp) y (without key cmp k (x ∷ xs)) ∙ rw (turned, e, turned) refl);
        }

    missing_next : (x : E) (xs : List E) (i : ℕ) → side x ≡ Less → IsKeyMissingAt key cmp k xs i → IsKeyMissingAt key cmp k (x ∷ xs) (suc i)
    missing_next x xs i is m =
        let turned : cmp k (key x) ≡ Greater = back x Less is in
        record {
          missing = rw turned m.missing;
          inside = omega (arith, m.inside);
          none = rw turned m.none;
          whole = rw turned (ap (λ t. x ∷ t) m.whole);
          inserted = λ y e.
              ap (λ t. x ∷ t) (m.inserted y e ∙ insert_sorted_is_put (on key cmp) y xs)
              ∙ sym (insert_sorted_is_put (on key cmp) y (x ∷ xs) ∙ rw (e, turned) refl);
        }

    -- ---- all are greater

    none_same : (xs : List E) → AllGreater xs → list_any (has_same_key key cmp k) xs ≡ false
    none_same [] all = refl
    none_same (x ∷ xs) all = rw (back x Greater all.0) (none_same xs all.1)

    none_found : (xs : List E) → AllGreater xs → find (has_same_key key cmp k) xs ≡ None
    none_found [] all = refl
    none_found (x ∷ xs) all = rw (back x Greater all.0) (none_found xs all.1)

    all_others : (xs : List E) → AllGreater xs → without key cmp k xs ≡ xs
    all_others [] all = refl
    all_others (x ∷ xs) all = rw (back x Greater all.0) (ap (λ t. x ∷ t) (all_others xs all.1))

    inserted_first : (y : E) (xs : List E) → key y ≡ k → AllGreater xs → insert_sorted (on key cmp) y xs ≡ y ∷ xs
    inserted_first y [] e all = insert_sorted_is_put (on key cmp) y []
    inserted_first y (x ∷ xs) e all = insert_sorted_is_put (on key cmp) y (x ∷ xs) ∙ rw (e, back x Greater all.0) refl

    key_here : (x : E) (xs : List E) → side x ≡ Equal → IsBelowAll (on key cmp) x xs → IsKeyAt key cmp k (x ∷ xs) zero
    key_here x xs is up =
        let turned : cmp k (key x) ≡ Equal = back x Equal is in
        let behind : AllGreater xs = all_greater x xs (ap is_lt is) up in
        let rest : without key cmp k (x ∷ xs) ≡ xs = rw turned (all_others xs behind) in
        record {
          there = rw turned refl;
          inside = omega arith;
          element = rw turned refl;
          removed = sym rest;
          replaced = λ y e. sym (ap (λ t. insert_sorted (on key cmp) y t) rest ∙ inserted_first y xs e behind);
        }

    missing_here : (xs : List E) → AllGreater xs → IsKeyMissingAt key cmp k xs zero
    missing_here xs all = record {
      missing = none_same xs all;
      inside = omega arith;
      none = none_found xs all;
      whole = all_others xs all;
      inserted = λ y e. sym (inserted_first y xs e all);
    }

    -- ---- the place that a search finds

    below_equal : (x : E) (xs : List E) (i : ℕ) → IsBelowAll (on key cmp) x xs → is_equal_at side xs i ≡ true → side x ≡ Less
    below_equal x [] i up same = absurd cc
    below_equal x (y ∷ ys) zero up same =
        let turned : cmp k (key y) ≡ Equal = back y Equal ((Equal-is (side y)).0 same) in
        let less : cmp k (key x) ≡ Greater = total.congr k (key y) (key x) turned ∙ total.antisymm (key y) (key x) ∙ ap ordering_reverse up.0 in
        total.antisymm (key x) k ∙ ap ordering_reverse less
    below_equal x (y ∷ ys) (suc i) up same = below_equal x ys i up.1 same

    pub key_at : (xs : List E) (i : ℕ) → Rises (on key cmp) xs → is_equal_at side xs i ≡ true → IsKeyAt key cmp k xs i
    key_at [] i up same = absurd cc
    key_at (x ∷ xs) zero up same = key_here x xs ((Equal-is (side x)).0 same) up.0
    key_at (x ∷ xs) (suc i) up same = key_next x xs i (below_equal x xs i up.0 same) (key_at xs i up.1 same)

    missing_at_place : (xs : List E) → Rises (on key cmp) xs → is_equal_at side xs (lower_bound side xs) ≡ false → IsKeyMissingAt key cmp k xs (lower_bound side xs)
    missing_at_place [] up none = missing_here [] tt
    missing_at_place (x ∷ xs) up none =
        elim (side x) as (λ r. side x ≡ r → IsKeyMissingAt key cmp k (x ∷ xs) (lower_bound side (x ∷ xs))) [
          | Less ↦ λ is.
              (let at = place_cons_less side x xs is in
              subst (λ i. IsKeyMissingAt key cmp k (x ∷ xs) i) (sym at) (missing_next x xs (lower_bound side xs) is (missing_at_place xs up.1 (ap (λ i. is_equal_at side (x ∷ xs) i) (sym at) ∙ none))))
          | Equal ↦ λ is.
              absurd (let same : true ≡ false = ap is_eq (sym is) ∙ ap (λ i. is_equal_at side (x ∷ xs) i) (sym (place_cons_level side x xs (ap is_lt is))) ∙ none in cc)
          | Greater ↦ λ is.
              subst (λ i. IsKeyMissingAt key cmp k (x ∷ xs) i) (sym (place_cons_level side x xs (ap is_lt is))) (missing_here (x ∷ xs) (is, all_greater x xs (ap is_lt is) up.0))
        ] refl

    pub key_missing_at : (xs : List E) (i : ℕ) → Rises (on key cmp) xs → i ≡ lower_bound side xs → is_equal_at side xs i ≡ false → IsKeyMissingAt key cmp k xs i
    key_missing_at xs i up at none =
        subst (λ j. IsKeyMissingAt key cmp k xs j) (sym at) (missing_at_place xs up (ap (λ j. is_equal_at side xs j) (sym at) ∙ none))

    -- all before the place of the key are less, and all behind it greater
    pub all_before : (xs : List E) (i : ℕ) → Rises (on key cmp) xs → is_equal_at side xs i ≡ true → AllByRecursion (λ x. side x ≡ Less) (take i xs)
    all_before [] i up same = absurd cc
    all_before (x ∷ xs) zero up same = tt
    all_before (x ∷ xs) (suc i) up same = (below_equal x xs i up.0 same, all_before xs i up.1 same)

    pub all_behind : (xs : List E) (i : ℕ) → Rises (on key cmp) xs → is_equal_at side xs i ≡ true → AllGreater (drop (suc i) xs)
    all_behind [] i up same = absurd cc
    all_behind (x ∷ xs) zero up same = all_greater x xs (ap is_lt ((Equal-is (side x)).0 same)) up.0
    all_behind (x ∷ xs) (suc i) up same = all_behind xs i up.1 same

    -- the same where no element has the key
    before_place : (xs : List E) → AllByRecursion (λ x. side x ≡ Less) (take (lower_bound side xs) xs)
    before_place [] = tt
    before_place (x ∷ xs) =
        elim (side x) as (λ r. side x ≡ r → AllByRecursion (λ y. side y ≡ Less) (take (lower_bound side (x ∷ xs)) (x ∷ xs))) [
          | Less ↦ λ is. subst (λ i. AllByRecursion (λ y. side y ≡ Less) (take i (x ∷ xs))) (sym (place_cons_less side x xs is)) (is, before_place xs)
          | Equal ↦ λ is. subst (λ i. AllByRecursion (λ y. side y ≡ Less) (take i (x ∷ xs))) (sym (place_cons_level side x xs (ap is_lt is))) tt
          | Greater ↦ λ is. subst (λ i. AllByRecursion (λ y. side y ≡ Less) (take i (x ∷ xs))) (sym (place_cons_level side x xs (ap is_lt is))) tt
        ] refl

    behind_place : (xs : List E) → Rises (on key cmp) xs → is_equal_at side xs (lower_bound side xs) ≡ false → AllGreater (drop (lower_bound side xs) xs)
    behind_place [] up none = tt
    behind_place (x ∷ xs) up none =
        elim (side x) as (λ r. side x ≡ r → AllGreater (drop (lower_bound side (x ∷ xs)) (x ∷ xs))) [
          | Less ↦ λ is.
              (let at = place_cons_less side x xs is in
              subst (λ i. AllGreater (drop i (x ∷ xs))) (sym at) (behind_place xs up.1 (ap (λ i. is_equal_at side (x ∷ xs) i) (sym at) ∙ none)))
          | Equal ↦ λ is.
              absurd (let same : true ≡ false = ap is_eq (sym is) ∙ ap (λ i. is_equal_at side (x ∷ xs) i) (sym (place_cons_level side x xs (ap is_lt is))) ∙ none in cc)
          | Greater ↦ λ is.
              subst (λ i. AllGreater (drop i (x ∷ xs))) (sym (place_cons_level side x xs (ap is_lt is))) (is, all_greater x xs (ap is_lt is) up.0)
        ] refl

    pub all_before_missing : (xs : List E) (i : ℕ) → i ≡ lower_bound side xs → AllByRecursion (λ x. side x ≡ Less) (take i xs)
    all_before_missing xs i at = subst (λ j. AllByRecursion (λ x. side x ≡ Less) (take j xs)) (sym at) (before_place xs)

    pub all_behind_missing : (xs : List E) (i : ℕ) → Rises (on key cmp) xs → i ≡ lower_bound side xs → is_equal_at side xs i ≡ false → AllGreater (drop i xs)
    all_behind_missing xs i up at none =
        subst (λ j. AllGreater (drop j xs)) (sym at) (behind_place xs up (ap (λ j. is_equal_at side xs j) (sym at) ∙ none))

-- ---- a list, seen through f

module _ {X Y : Type 0} (f : X → Y) where
  pub map-insert : (xs : List X) (i : ℕ) (x : X) → map f (insert xs i x) ≡ insert (map f xs) i (f x)
  map-insert [] zero x = refl
  map-insert [] (suc i) x = refl
  map-insert (y ∷ ys) zero x = refl
  map-insert (y ∷ ys) (suc i) x = ap (λ t. f y ∷ t) (map-insert ys i x)

  pub map-remove : (xs : List X) (i : ℕ) → map f (remove xs i) ≡ remove (map f xs) i
  map-remove [] zero = refl
  map-remove [] (suc i) = refl
  map-remove (y ∷ ys) zero = refl
  map-remove (y ∷ ys) (suc i) = ap (λ t. f y ∷ t) (map-remove ys i)

  pub lower_bound-map : (side : Y → Ordering) (xs : List X) → lower_bound (λ x. side (f x)) xs ≡ lower_bound side (map f xs)
  lower_bound-map side [] = refl
  lower_bound-map side (x ∷ xs) = ap (λ n. cond (is_lt (side (f x))) (1 + n) 0) (lower_bound-map side xs)

  pub is_equal_at-map : (side : Y → Ordering) (xs : List X) (i : ℕ) → is_equal_at (λ x. side (f x)) xs i ≡ is_equal_at side (map f xs) i
  is_equal_at-map side [] i = refl
  is_equal_at-map side (x ∷ xs) zero = refl
  is_equal_at-map side (x ∷ xs) (suc i) = is_equal_at-map side xs i

  below_from_map : (cmp : Y → Y → Ordering) (x : X) (xs : List X) → IsBelowAll cmp (f x) (map f xs) → IsBelowAll (on f cmp) x xs
  below_from_map cmp x [] up = tt
  below_from_map cmp x (y ∷ ys) up = (up.0, below_from_map cmp x ys up.1)

  pub rises_from_map : (cmp : Y → Y → Ordering) (xs : List X) → Rises cmp (map f xs) → Rises (on f cmp) xs
  rises_from_map cmp [] up = tt
  rises_from_map cmp (x ∷ xs) up = (below_from_map cmp x xs up.0, rises_from_map cmp xs up.1)

pub ruleset seen = (slice_get-map, map-insert, map-remove, map-set)
