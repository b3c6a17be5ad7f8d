-- Pairs in a tree of buckets, as keys with values in ordinal order.
use Rattle.std.proofs.Common.{◌≡◌, suc, Bool, true, false, not, cond, ◌||◌, List, [], ◌∷◌, ◌++◌, length, map, ap, sym, ◌∙◌, refl, subst, append_assoc, append-nil}
use Rattle.std.specs.Prelude.{Option, Some, None, find, filter, fold, is_some}
use Rattle.std.specs.List.{AllByRecursion, list_any}
use Rattle.std.specs.Option.{option_map}
use Rattle.std.specs.Cmp.{IsTotalOrder, IsEquivalence, on_equiv}
use Rattle.std.specs.Ordering.{is_lt, on, ordering_then, ordering_reverse}
use Rattle.std.specs.declared.cmp.Ordering.{Ordering}
use Rattle.std.specs.declared.cmp.Ordering.TheVariants.{Less, Equal, Greater}
use Rattle.std.proofs.lemmas.List.Folds.{list_any-append}
use Rattle.imm_base.specs.declared.pair.Pair.{Pair}
use Rattle.imm_base.specs.Kept.{IsBelowAll, Rises, AreDistinct, IsExact, IsSet, pair_cmp, with_pair_kept_in}
use Rattle.imm_base.specs.Lists.{insert_sorted, sorted}
use Rattle.imm_base.specs.Maps.{Entries, entry_of, has_key, without_key, with_pair}
use Rattle.imm_base.specs.Sets.{has}
use Rattle.imm_base.proofs.Inserted.{put, insert_sorted_is_put}
use Rattle.imm_base.proofs.KeptSets.{or_no}
use Rattle.imm_base.proofs.KeptMaps.{is_some-find}
use Rattle.imm_base.proofs.Reordered.{list_any-sorted, length-sorted, sorted-insert, set_sorted}
use Rattle.imm_base.proofs.ReorderedMaps.{pair_total, pair_exact, without_key-sorted, with_pair-sorted, entry_of-sorted}
use Rattle.hash_bucket.specs.Rows.{others, with_same}
use Rattle.imm_dictionary.specs.Mapped.{entry, entries}

-- ---- a list seen through f

module _ {X Y : Type 0} (f : X → Y) where
  find-map : (p : Y → Bool) (xs : List X) → option_map f (find (λ x. p (f x)) xs) ≡ find p (map f xs)
  find-map p [] = refl
  find-map p (x ∷ xs) = elim (p (f x)) as (λ t. option_map f (cond t (Some x) (find (λ y. p (f y)) xs)) ≡ cond t (Some (f x)) (find p (map f xs))) [
    | true ↦ refl
    | false ↦ find-map p xs
  ]

  any-map : (p : Y → Bool) (xs : List X) → list_any (λ x. p (f x)) xs ≡ list_any p (map f xs)
  any-map p [] = refl
  any-map p (x ∷ xs) = ap (λ t. p (f x) || t) (any-map p xs)

  filter-map : (p : Y → Bool) (xs : List X) → map f (filter (λ x. p (f x)) xs) ≡ filter p (map f xs)
  filter-map p [] = refl
  filter-map p (x ∷ xs) = elim (p (f x)) as (λ t. map f (cond t (x ∷ filter (λ y. p (f y)) xs) (filter (λ y. p (f y)) xs)) ≡ cond t (f x ∷ filter p (map f xs)) (filter p (map f xs))) [
    | true ↦ ap (λ t. f x ∷ t) (filter-map p xs)
    | false ↦ filter-map p xs
  ]

  length-mapped : (xs : List X) → length (map f xs) ≡ length xs
  length-mapped [] = refl
  length-mapped (x ∷ xs) = ap suc (length-mapped xs)

  module _ (cmp : Y → Y → Ordering) where
    put-map : (x : X) (xs : List X) → map f (put (on f cmp) x xs) ≡ put cmp (f x) (map f xs)
    put-map x [] = refl
    put-map x (y ∷ ys) = elim (is_lt (cmp (f x) (f y))) as (λ t. map f (cond t (x ∷ y ∷ ys) (y ∷ put (on f cmp) x ys)) ≡ cond t (f x ∷ f y ∷ map f ys) (f y ∷ put cmp (f x) (map f ys))) [
      | true ↦ refl
      | false ↦ ap (λ t. f y ∷ t) (put-map x ys)
    ]

    insert_sorted-map : (x : X) (xs : List X) → map f (insert_sorted (on f cmp) x xs) ≡ insert_sorted cmp (f x) (map f xs)
    insert_sorted-map x xs = ap (map f) (insert_sorted_is_put (on f cmp) x xs) ∙ put-map x xs ∙ sym (insert_sorted_is_put cmp (f x) (map f xs))

    sorted_on : (done xs : List X) → map f (fold (λ ys x. insert_sorted (on f cmp) x ys) done xs) ≡ fold (λ ys y. insert_sorted cmp y ys) (map f done) (map f xs)
    sorted_on done [] = refl
    sorted_on done (x ∷ xs) =
        sorted_on (insert_sorted (on f cmp) x done) xs ∙ ap (λ t. fold (λ ys y. insert_sorted cmp y ys) t (map f xs)) (insert_sorted-map x done)

    pub sorted-map : (xs : List X) → map f (sorted (on f cmp) xs) ≡ sorted cmp (map f xs)
    sorted-map xs = sorted_on [] xs

  distinct-map : (same : Y → Y → Bool) (xs : List X) → AreDistinct (on f same) xs → AreDistinct same (map f xs)
  distinct-map same [] distinct = tt
  distinct-map same (x ∷ xs) distinct = (sym (any-map (same (f x)) xs) ∙ distinct.0, distinct-map same xs distinct.1)

-- ---- a list that rises is in order

module _ {X : Type 0} (cmp : X → X → Ordering) (total : IsTotalOrder cmp) where
  -- x is put behind what is not greater
  put_last : (x : X) (xs : List X) → list_any (λ y. is_lt (cmp x y)) xs ≡ false → put cmp x xs ≡ xs ++ x ∷ []
  put_last x [] none = refl
  put_last x (y ∷ ys) none = elim (is_lt (cmp x y)) as (λ t. (t || list_any (λ z. is_lt (cmp x z)) ys) ≡ false → cond t (x ∷ y ∷ ys) (y ∷ put cmp x ys) ≡ y ∷ (ys ++ x ∷ [])) [
    | true ↦ λ f. absurd cc
    | false ↦ λ f. ap (λ t. y ∷ t) (put_last x ys f)
  ] none

  -- none of xs is less than one that is done
  abbrev AreBehind : List X → List X → Type 0
  AreBehind done xs = AllByRecursion (λ x. list_any (λ d. is_lt (cmp x d)) done ≡ false) xs

  behind_next : (x : X) (done xs : List X) → IsBelowAll cmp x xs → AreBehind done xs → AreBehind (done ++ x ∷ []) xs
  behind_next x done [] up behind = tt
  behind_next x done (y ∷ ys) up behind = (
    let turned : cmp y x ≡ Greater = total.antisymm y x ∙ ap ordering_reverse up.0 in
        list_any-append (λ d. is_lt (cmp y d)) done (x ∷ []) ∙ rw (behind.0, turned) refl,
    behind_next x done ys up.1 behind.1,
  )

  sorted_behind : (done xs : List X) → AreBehind done xs → Rises cmp xs → fold (λ ys x. insert_sorted cmp x ys) done xs ≡ done ++ xs
  sorted_behind done [] behind up = sym (append-nil done)
  sorted_behind done (x ∷ xs) behind up =
      ap (λ t. fold (λ ys y. insert_sorted cmp y ys) t xs) (insert_sorted_is_put cmp x done ∙ put_last x done behind.0)
      ∙ sorted_behind (done ++ x ∷ []) xs (behind_next x done xs up.0 behind.1) up.1
      ∙ append_assoc done (x ∷ []) xs

  behind_none : (xs : List X) → AreBehind [] xs
  behind_none [] = tt
  behind_none (x ∷ xs) = (refl, behind_none xs)

  pub sorted_rises : (xs : List X) → Rises cmp xs → sorted cmp xs ≡ xs
  sorted_rises xs up = sorted_behind [] xs (behind_none xs) up

-- ---- pairs in order

module _ {K V : Type 0} (key_cmp : K → K → Ordering) (value_cmp : V → V → Ordering) (total_keys : IsTotalOrder key_cmp) (total_values : IsTotalOrder value_cmp) (exact_keys : IsExact key_cmp) (exact_values : IsExact value_cmp) (same : K → K → Bool) (equal : IsEquivalence same) where
  below_by_key : (x : K × V) (ys : Entries K V) → IsBelowAll (pair_cmp key_cmp value_cmp) x ys → has (on (λ e. e.0) same) x ys ≡ false → IsBelowAll (on (λ e. e.0) key_cmp) x ys
  below_by_key x [] up none = tt
  below_by_key x (y ∷ ys) up none =
      let parts = or_no (same x.0 y.0) (has (on (λ (e : K × V). e.0) same) x ys) none in (
        elim (key_cmp x.0 y.0) as (λ r. key_cmp x.0 y.0 ≡ r → ordering_then r (value_cmp x.1 y.1) ≡ Less → r ≡ Less) [
          | Less ↦ λ _ _. refl
          | Equal ↦ λ e _. absurd (let tie : same x.0 y.0 ≡ true = subst (λ (k : K). same x.0 k ≡ true) (exact_keys x.0 y.0 e) (equal.refl x.0) in cc)
          | Greater ↦ λ _ f. absurd (let g : Greater ≡ Less = f in cc)
        ] refl up.0,
        below_by_key x ys up.1 parts.1,
      )

  rises_by_key : (m : Entries K V) → Rises (pair_cmp key_cmp value_cmp) m → AreDistinct (on (λ e. e.0) same) m → Rises (on (λ e. e.0) key_cmp) m
  rises_by_key [] up distinct = tt
  rises_by_key (x ∷ xs) up distinct = (below_by_key x xs up.0 distinct.0, rises_by_key xs up.1 distinct.1)

  abbrev order : K × V → K × V → Ordering
  order = pair_cmp key_cmp value_cmp

  order_total : IsTotalOrder order
  order_total = pair_total key_cmp value_cmp total_keys total_values exact_keys exact_values

  order_exact : IsExact order
  order_exact = pair_exact key_cmp value_cmp total_keys total_values exact_keys exact_values

  -- the pairs ps of a tree, which are m in order
  module _ (ps : List (Pair K V)) (m : Entries K V) (is : sorted order (entries ps) ≡ m) where
    pub length-pairs : length ps ≡ length m
    length-pairs = sym (length-mapped entry ps) ∙ sym (length-sorted order order_total order_exact (entries ps)) ∙ ap length is

    pub pairs_are_map : AreDistinct (on (λ p. p.key) same) ps → IsSet (on (λ e. e.0) key_cmp) (on (λ e. e.0) same) m
    pairs_are_map distinct =
        let by_key : IsEquivalence (on (λ (e : K × V). e.0) same) = on_equiv (λ (e : K × V). e.0) equal in
        let set : IsSet order (on (λ e. e.0) same) m =
        subst (IsSet order (on (λ e. e.0) same)) is (set_sorted order order_total order_exact (on (λ e. e.0) same) by_key (entries ps) (distinct-map entry (on (λ e. e.0) same) ps distinct)) in
        record { rises = rises_by_key m set.rises set.distinct; distinct = set.distinct }

    found_in_order : AreDistinct (on (λ p. p.key) same) ps → (k : K) (v : V) → option_map entry (find (λ p. same k p.key) ps) ≡ entry_of same k m
    found_in_order distinct k v =
        find-map entry (λ e. same k e.0) ps
        ∙ sym (entry_of-sorted key_cmp value_cmp total_keys total_values exact_keys exact_values same equal k v (entries ps) (distinct-map entry (on (λ e. e.0) same) ps distinct))
        ∙ ap (λ n. entry_of same k n) is

    pub any-pairs : (p : K × V → Bool) → list_any (λ q. p (entry q)) ps ≡ list_any p m
    any-pairs p = any-map entry p ps ∙ sym (list_any-sorted order order_total order_exact p (entries ps)) ∙ ap (list_any p) is

    pub has_key-pairs : (k : K) → has_key same k m ≡ list_any (λ p. same k p.key) ps
    has_key-pairs k = is_some-find (λ e. same k e.0) m ∙ sym (any-pairs (λ e. same k e.0))

    pub with-pairs : (other : K × V → K × V → Ordering) (p : Pair K V) (qs : List (Pair K V)) → qs ≡ with_same (on entry other) (on (λ q. q.key) same) p ps → sorted order (entries qs) ≡ with_pair key_cmp same p.key p.value m
    with-pairs other p qs made =
        ap (λ t. sorted order (entries t)) made
        ∙ ap (sorted order) (insert_sorted-map entry other p (others (λ q. same p.key q.key) ps) ∙ ap (insert_sorted other (entry p)) (filter-map entry (λ e. not (same p.key e.0)) ps))
        ∙ with_pair-sorted key_cmp value_cmp total_keys total_values exact_keys exact_values same equal other p.key p.value (entries ps)
        ∙ ap (with_pair key_cmp same p.key p.value) is

    pub without-pairs : (k : K) (qs : List (Pair K V)) → qs ≡ others (λ p. same k p.key) ps → sorted order (entries qs) ≡ without_key same k m
    without-pairs k qs made =
        ap (λ t. sorted order (entries t)) made ∙ ap (sorted order) (filter-map entry (λ e. not (same k e.0)) ps)
        ∙ without_key-sorted key_cmp value_cmp total_keys total_values exact_keys exact_values same equal k (entries ps)
        ∙ ap (without_key same k) is

  -- a pair is found by its key
  pub entry-pair : (ps : List (Pair K V)) (m : Entries K V) → sorted order (entries ps) ≡ m → AreDistinct (on (λ p. p.key) same) ps → (k : K) → option_map entry (find (λ p. same k p.key) ps) ≡ entry_of same k m
  entry-pair [] m is distinct k = ap (λ n. entry_of same k n) is
  entry-pair (p ∷ ps) m is distinct k = found_in_order (p ∷ ps) m is distinct k p.value
