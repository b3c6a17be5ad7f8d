-- What an operation with many pairs or keys gives on a map that is kept in another order of its keys, put in order of its pairs: what it gives on the ordered map.
use Rattle.std.proofs.Common.{◌≡◌, Bool, true, false, cond, List, [], ◌∷◌, length, ap, sym, ◌∙◌, refl}
use Rattle.std.specs.Prelude.{Option, Some, None, option_map, fold, Result, Ok, Err, ◌&&◌, if◌then◌else◌}
use Rattle.std.specs.Bool.{Decides}
use Rattle.std.specs.List.{list_any, list_all}
use Rattle.std.specs.Option.{option_map_or}
use Rattle.std.specs.Cmp.{IsTotalOrder, IsEquivalence}
use Rattle.std.specs.Ordering.{on, ordering_then}
use Rattle.std.specs.declared.cmp.Ordering.{Ordering}
use Rattle.imm_base.specs.declared.val.Edit.TheVariants.{Same, New}
use Rattle.imm_base.specs.Edits.{Gives, is_over, too_large}
use Rattle.imm_base.specs.Lists.{sorted}
use Rattle.imm_base.specs.Maps.{Entries, entry_of, value_of, has_key, without_key, has_pair, with_pair, set_pair, set_all, add_over, add_next, add_all, pair_eq, map_set_all, added, map_add_all, map_remove_all}
use Rattle.imm_base.specs.Kept.{IsBelowAll, Rises, IsExact, CanKeep, pair_cmp, give_map}
use Rattle.imm_base.proofs.KeptMaps.{IsMap, IfAdded, added_next, added_from, is_some-find, set_all_map}
use Rattle.imm_base.proofs.Reordered.{length-sorted, list_any-sorted}
use Rattle.imm_base.proofs.ReorderedMaps.{pair_total, pair_exact, without_key-sorted, with_pair-sorted, entry_of-sorted}
use Rattle.imm_base.proofs.ReorderedRows.{give_if, edit_within-sorted}

-- what rises by its keys rises by its pairs
module _ {K V : Type 0} (other : K → K → Ordering) (value_cmp : V → V → Ordering) where
  below_pairs : (e : K × V) (m : Entries K V) → IsBelowAll (on (λ d. d.0) other) e m → IsBelowAll (pair_cmp other value_cmp) e m
  below_pairs e [] up = tt
  below_pairs e (d ∷ m) up = (ap (λ o. ordering_then o (value_cmp e.1 d.1)) up.0, below_pairs e m up.1)

  rises_pairs : (m : Entries K V) → Rises (on (λ d. d.0) other) m → Rises (pair_cmp other value_cmp) m
  rises_pairs [] up = tt
  rises_pairs (e ∷ m) up = (below_pairs e m up.0, rises_pairs m up.1)

both_true : (a b : Bool) → (a && b) ≡ true → (a ≡ true) × (b ≡ true)
both_true true b e = (refl, e)
both_true false b e = let f : false ≡ true = e in (cc, cc)

-- equal pairs are one, where equal keys are and equal values
pair_decides : {K V : Type 0} (key_eq : K → K → Bool) (eq : V → V → Bool) → ((a b : K) → Decides (key_eq a b) (a ≡ b)) → ((a b : V) → Decides (eq a b) (a ≡ b)) → (a b : K × V) → Decides (pair_eq key_eq eq a b) (a ≡ b)
pair_decides key_eq eq keys values a b = (
  λ e. (let parts = both_true (key_eq a.0 b.0) (eq a.1 b.1) e in
      let k : a.0 ≡ b.0 = (keys a.0 b.0).0 parts.0 in
      let v : a.1 ≡ b.1 = (values a.1 b.1).0 parts.1 in
      λ i. (k i, v i)),
  λ e. (let k : key_eq a.0 b.0 ≡ true = (keys a.0 b.0).1 (ap (λ d. d.0) e) in
      let v : eq a.1 b.1 ≡ true = (values a.1 b.1).1 (ap (λ d. d.1) e) in
      rw (k, v) refl),
)

module _ {K V : Type 0} (key_cmp : K → K → Ordering) (value_cmp : V → V → Ordering) (total_keys : IsTotalOrder key_cmp) (total_values : IsTotalOrder value_cmp) (exact_keys : IsExact key_cmp) (exact_values : IsExact value_cmp) (same : K → K → Bool) where
  abbrev order : K × V → K × V → Ordering
  order = pair_cmp key_cmp value_cmp

  total : IsTotalOrder order
  total = pair_total key_cmp value_cmp total_keys total_values exact_keys exact_values

  exact : IsExact order
  exact = pair_exact key_cmp value_cmp total_keys total_values exact_keys exact_values

  -- ---- removing

  has_key-sorted : (k : K) (m : Entries K V) → has_key same k m ≡ has_key same k (sorted order m)
  has_key-sorted k m =
      is_some-find (λ e. same k e.0) m ∙ sym (list_any-sorted order total exact (λ e. same k e.0) m) ∙ sym (is_some-find (λ e. same k e.0) (sorted order m))

  module _ (equal : IsEquivalence same) where
    without_all-sorted : (ks : List K) (m : Entries K V) → sorted order (fold (λ n k. without_key same k n) m ks) ≡ fold (λ n k. without_key same k n) (sorted order m) ks
    without_all-sorted [] m = refl
    without_all-sorted (k ∷ ks) m =
        without_all-sorted ks (without_key same k m)
        ∙ ap (λ t. fold (λ n l. without_key same l n) t ks) (without_key-sorted key_cmp value_cmp total_keys total_values exact_keys exact_values same equal k m)

    pub map_remove_all-sorted : (ks : List K) (m : Entries K V) → give_map {V = V} (sorted order) (map_remove_all same ks m) ≡ map_remove_all same ks (sorted order m)
    map_remove_all-sorted ks m =
        let left : Entries K V = fold (λ n k. without_key same k n) m ks in
        give_if V (sorted order) (list_any (λ k. has_key same k m) ks) (Ok (New left)) (Ok Same)
        ∙ (λ i. if list_any (λ k. has_key-sorted k m i) ks then Ok (New (without_all-sorted ks m i)) else Ok Same)

  -- ---- setting and adding

  module _ (other : K → K → Ordering) (keep : CanKeep other same) (eq : V → V → Bool) where
    entry-sorted : (k : K) (v : V) (m : Entries K V) → IsMap other same m → entry_of same k m ≡ entry_of same k (sorted order m)
    entry-sorted k v m is =
        sym (entry_of-sorted key_cmp value_cmp total_keys total_values exact_keys exact_values same keep.equal k v m is.distinct)

    has_pair-sorted : (k : K) (v : V) (m : Entries K V) → IsMap other same m → has_pair same eq k v m ≡ has_pair same eq k v (sorted order m)
    has_pair-sorted k v m is = ap (λ t. option_map_or (λ u. eq u v) (option_map (λ e. e.1) t) false) (entry-sorted k v m is)

    put-sorted : (k : K) (v : V) (m : Entries K V) → sorted order (with_pair other same k v m) ≡ with_pair key_cmp same k v (sorted order m)
    put-sorted k v m =
        with_pair-sorted key_cmp value_cmp total_keys total_values exact_keys exact_values same keep.equal (on (λ e. e.0) other) k v m

    sorted_if : (test : Bool) (m n : Entries K V) → sorted order (if test then m else n) ≡ (if test then sorted order m else sorted order n)
    sorted_if true m n = refl
    sorted_if false m n = refl

    set_pair-sorted : (k : K) (v : V) (m : Entries K V) → IsMap other same m → sorted order (set_pair other same eq k v m) ≡ set_pair key_cmp same eq k v (sorted order m)
    set_pair-sorted k v m is =
        sorted_if (has_pair same eq k v m) m (with_pair other same k v m)
        ∙ (λ i. if has_pair-sorted k v m is i then sorted order m else put-sorted k v m i)

    set_all-sorted : (ps m : Entries K V) → IsMap other same m → sorted order (set_all other same eq ps m) ≡ set_all key_cmp same eq ps (sorted order m)
    set_all-sorted [] m is = refl
    set_all-sorted (p ∷ ps) m is =
        set_all-sorted ps (set_pair other same eq p.0 p.1 m) (set_all_map other same keep eq (p ∷ []) m is)
        ∙ ap (λ t. set_all key_cmp same eq ps t) (set_pair-sorted p.0 p.1 m is)

    pub map_set_all-sorted : (ps m : Entries K V) → IsMap other same m → give_map {V = V} (sorted order) (map_set_all other same eq ps m) ≡ map_set_all key_cmp same eq ps (sorted order m)
    map_set_all-sorted ps m is =
        let n : Entries K V = set_all other same eq ps m in
        let unchanged : Bool = list_all (λ p. has_pair same eq p.0 p.1 m) ps in
        let size : length m ≡ length (sorted order m) = sym (length-sorted order total exact m) in
        let made : sorted order n ≡ set_all key_cmp same eq ps (sorted order m) = set_all-sorted ps m is in
        let new_size : length n ≡ length (set_all key_cmp same eq ps (sorted order m)) = sym (length-sorted order total exact n) ∙ ap length made in
        let other_map : Gives V (Entries K V) = if unchanged then Ok Same else Ok (New n) in
        let rest : give_map {V = V} (sorted order) other_map ≡ (if list_all (λ p. has_pair same eq p.0 p.1 (sorted order m)) ps then Ok Same else Ok (New (set_all key_cmp same eq ps (sorted order m)))) =
        give_if V (sorted order) unchanged (Ok Same) (Ok (New n)) ∙ (λ i. if list_all (λ p. has_pair-sorted p.0 p.1 m is i) ps then Ok Same else Ok (New (made i))) in
        give_if V (sorted order) (is_over (length n)) (Err (too_large (length m))) other_map
        ∙ (λ i. if is_over (new_size i) then Err (too_large (size i)) else rest i)

    -- what was added so far, put in order
    abbrev in_order : Result (Entries K V) V → Result (Entries K V) V
    in_order (Ok m) = Ok (sorted order m)
    in_order (Err u) = Err u

    add_over-sorted : (k : K) (v : V) (m : Entries K V) (found : Option V) → in_order (add_over other same eq k v m found) ≡ add_over key_cmp same eq k v (sorted order m) found
    add_over-sorted k v m None = ap (λ n. Ok n) (put-sorted k v m)
    add_over-sorted k v m (Some u) = elim (eq u v) as (λ t. in_order (cond t (Ok m) (Err u)) ≡ cond t (Ok (sorted order m)) (Err u)) [ true ↦ refl | false ↦ refl ]

    add_next-sorted : (done : Result (Entries K V) V) (p : K × V) → IfAdded other same keep eq done → in_order (add_next other same eq done p) ≡ add_next key_cmp same eq (in_order done) p
    add_next-sorted (Ok m) p is =
        add_over-sorted p.0 p.1 m (value_of same p.0 m)
        ∙ ap (λ t. add_over key_cmp same eq p.0 p.1 (sorted order m) (option_map (λ e. e.1) t)) (entry-sorted p.0 p.1 m is)
    add_next-sorted (Err u) p is = refl

    add_all-sorted : (done : Result (Entries K V) V) (ps : Entries K V) → IfAdded other same keep eq done → in_order (fold (add_next other same eq) done ps) ≡ fold (add_next key_cmp same eq) (in_order done) ps
    add_all-sorted done [] is = refl
    add_all-sorted done (p ∷ ps) is =
        add_all-sorted (add_next other same eq done p) ps (added_next other same keep eq done p is)
        ∙ ap (λ t. fold (add_next key_cmp same eq) t ps) (add_next-sorted done p is)

    module _ (exact_other : IsExact other) (key_eq : K → K → Bool) (one_key : (a b : K) → Decides (key_eq a b) (a ≡ b)) (one_value : (a b : V) → Decides (eq a b) (a ≡ b)) where
      added-sorted : (m : Entries K V) (done : Result (Entries K V) V) → IsMap other same m → IfAdded other same keep eq done → give_map {V = V} (sorted order) (added key_eq eq m done) ≡ added key_eq eq (sorted order m) (in_order done)
      added-sorted m (Err u) is adds = refl
      added-sorted m (Ok n) is adds =
          edit_within-sorted order total exact (on (λ e. e.0) same) (pair_cmp other value_cmp)
          (pair_total other value_cmp keep.total total_values exact_other exact_values) (pair_exact other value_cmp keep.total total_values exact_other exact_values)
          (pair_eq key_eq eq) (pair_decides key_eq eq one_key one_value) V m n (rises_pairs other value_cmp m is.rises) (rises_pairs other value_cmp n adds.rises)

      pub map_add_all-sorted : (ps m : Entries K V) → IsMap other same m → give_map {V = V} (sorted order) (map_add_all key_eq other same eq ps m) ≡ map_add_all key_eq key_cmp same eq ps (sorted order m)
      map_add_all-sorted ps m is =
          added-sorted m (add_all other same eq ps m) is (added_from other same keep eq (Ok m) ps is)
          ∙ ap (λ t. added key_eq eq (sorted order m) t) (add_all-sorted (Ok m) ps is)
