-- The elements of a collection, put in the order of its buckets.
use Rattle.std.proofs.Common.{◌≡◌, Bool, true, false, ◌||◌, ℤ, List, [], ◌∷◌, map, refl, ap, sym, ◌∙◌, subst}
use Rattle.std.specs.Prelude.{fold}
use Rattle.std.specs.List.{AllByRecursion, list_any}
use Rattle.std.specs.Cmp.{IsTotalOrder, IsEquivalence, on_total, then_total}
use Rattle.std.proofs.lemmas.Cmp.{int_cmp_total}
use Rattle.std.specs.Ordering.{int_cmp, is_eq, on, then_cmp, ordering_then, ordering_reverse}
use Rattle.std.specs.declared.cmp.Ordering.{Ordering}
use Rattle.std.specs.declared.cmp.Ordering.TheVariants.{Less, Equal, Greater}
use Rattle.imm_base.specs.declared.pair.Pair.{Pair}
use Rattle.imm_base.specs.Kept.{IsBelowAll, Rises, AreDistinct, IsExact, pair_cmp}
use Rattle.imm_base.specs.Lists.{insert_sorted, sorted}
use Rattle.imm_base.specs.Maps.{Entries}
use Rattle.imm_base.specs.Sets.{has}
use Rattle.imm_base.proofs.Inserted.{put, insert_sorted_is_put, list_any-put}
use Rattle.imm_base.proofs.KeptSets.{or_no}
use Rattle.imm_base.proofs.Reordered.{sorted_kept, sorted-sorted}
use Rattle.imm_base.proofs.ReorderedMaps.{put_by_key, pair_total, pair_exact}
use Rattle.hash_bucket.specs.Buckets.{hash_order}
use Rattle.imm_dictionary.specs.Mapped.{entry, entries}
use Rattle.imm_base.specs.declared.val.Val.{Val}
use Rattle.plain_model.specs.declared.plain.Elem.{Elem}
use Rattle.plain_model.specs.declared.plain.Elem.TheVariants.{One}
use Rattle.plain_model.specs.Places.{start_of}
use Rattle.enumerators.specs.Rests.{pair_elem}
use Rattle.enumerators.specs.Orders.{pairs_in_order}

second_ties : (r s : Ordering) → ordering_then r s ≡ Equal → s ≡ Equal
second_ties Less s e = let f : Less ≡ Equal = e in cc
second_ties Equal s e = e
second_ties Greater s e = let f : Greater ≡ Equal = e in cc

tie_reversed : (r : Ordering) → is_eq r ≡ false → is_eq (ordering_reverse r) ≡ false
tie_reversed Less f = refl
tie_reversed Equal f = f
tie_reversed Greater f = refl

module _ {T : Type 0} (cmp : T → T → Ordering) (hash : T → ℤ) (total : IsTotalOrder cmp) (exact : IsExact cmp) where
  pub order_total : IsTotalOrder (hash_order cmp hash)
  order_total = then_total (on_total hash int_cmp_total) total

  pub order_exact : IsExact (hash_order cmp hash)
  order_exact a b e = exact a b (second_ties (int_cmp (hash a) (hash b)) (cmp a b) e)

  -- xs, which rise by hash, are ys in the order cmp
  pub values_back : (xs ys : List T) → Rises (hash_order cmp hash) xs → sorted cmp xs ≡ ys → sorted (hash_order cmp hash) ys ≡ xs
  values_back xs ys up is =
      ap (sorted (hash_order cmp hash)) (sym is) ∙ sorted-sorted (hash_order cmp hash) order_total order_exact cmp xs
      ∙ sorted_kept (hash_order cmp hash) order_total order_exact xs up

module _ {K V : Type 0} (key_cmp : K → K → Ordering) (value_cmp : V → V → Ordering) (hash : K → ℤ) (total_keys : IsTotalOrder key_cmp) (total_values : IsTotalOrder value_cmp) (exact_keys : IsExact key_cmp) (exact_values : IsExact value_cmp) (same : K → K → Bool) (equal : IsEquivalence same) where
  abbrev by_hash : K → K → Ordering
  by_hash = hash_order key_cmp hash

  hash_total : IsTotalOrder by_hash
  hash_total = order_total key_cmp hash total_keys exact_keys

  hash_exact : IsExact by_hash
  hash_exact = order_exact key_cmp hash total_keys exact_keys

  -- the keys alone, and where they tie the values too
  abbrev by_key : K × V → K × V → Ordering
  by_key = on (λ e. e.0) by_hash

  abbrev by_all : K × V → K × V → Ordering
  by_all = pair_cmp by_hash value_cmp

  all_total : IsTotalOrder by_all
  all_total = pair_total by_hash value_cmp hash_total total_values hash_exact exact_values

  all_exact : IsExact by_all
  all_exact = pair_exact by_hash value_cmp hash_total total_values hash_exact exact_values

  -- ---- pairs with different keys rise by their keys

  abbrev pair_order : Pair K V → Pair K V → Ordering
  pair_order = hash_order (λ p q. ordering_then (key_cmp p.key q.key) (value_cmp p.value q.value)) (λ p. hash p.key)

  less_keys : (r k v : Ordering) → ordering_then r (ordering_then k v) ≡ Less → (k ≡ Equal → ⊥) → ordering_then r k ≡ Less
  less_keys Less k v e far = refl
  less_keys Equal Less v e far = refl
  less_keys Equal Equal v e far = absurd (far refl)
  less_keys Equal Greater v e far = absurd (let f : Greater ≡ Less = e in cc)
  less_keys Greater k v e far = absurd (let f : Greater ≡ Less = e in cc)

  first_less : (r v : Ordering) → r ≡ Less → ordering_then r v ≡ Less
  first_less r v e = ap (λ (t : Ordering). ordering_then t v) e

  no_tie : (k l : K) → same k l ≡ false → key_cmp k l ≡ Equal → ⊥
  no_tie k l apart e = let tie : same k l ≡ true = subst (λ (m : K). same k m ≡ true) (exact_keys k l e) (equal.refl k) in (let f : true ≡ false = sym tie ∙ apart in cc)

  below_all : (p : Pair K V) (ps : List (Pair K V)) → IsBelowAll pair_order p ps → has (on (λ q. q.key) same) p ps ≡ false → IsBelowAll by_all (entry p) (entries ps)
  below_all p [] up none = tt
  below_all p (q ∷ qs) up none =
      let parts = or_no (same p.key q.key) (has (on (λ (r : Pair K V). r.key) same) p qs) none in (
        first_less (by_hash p.key q.key) (value_cmp p.value q.value)
            (less_keys (int_cmp (hash p.key) (hash q.key)) (key_cmp p.key q.key) (value_cmp p.value q.value) up.0 (no_tie p.key q.key parts.0)),
        below_all p qs up.1 parts.1,
      )

  rises_all : (ps : List (Pair K V)) → Rises pair_order ps → AreDistinct (on (λ q. q.key) same) ps → Rises by_all (entries ps)
  rises_all [] up distinct = tt
  rises_all (p ∷ ps) up distinct = (below_all p ps up.0 distinct.0, rises_all ps up.1 distinct.1)

  -- ---- pairs with different keys are put in order by their keys alone

  abbrev tie : K × V → K × V → Bool
  tie d e = is_eq (by_hash d.0 e.0)

  tie_turned : (d e : K × V) → tie d e ≡ false → tie e d ≡ false
  tie_turned d e apart = ap is_eq (hash_total.antisymm e.0 d.0) ∙ tie_reversed (by_hash d.0 e.0) apart

  ties_apart : (d e : K × V) → same d.0 e.0 ≡ false → tie d e ≡ false
  ties_apart d e apart = elim (by_hash d.0 e.0) as (λ r. by_hash d.0 e.0 ≡ r → is_eq r ≡ false) [
    | Less ↦ λ _. refl
    | Equal ↦ λ f. absurd (no_tie d.0 e.0 apart (second_ties (int_cmp (hash d.0) (hash e.0)) (key_cmp d.0 e.0) f))
    | Greater ↦ λ _. refl
  ] refl

  -- none of xs ties with one that is done
  abbrev AreFar : Entries K V → Entries K V → Type 0
  AreFar done xs = AllByRecursion (λ x. list_any (tie x) done ≡ false) xs

  far_none : (xs : Entries K V) → AreFar [] xs
  far_none [] = tt
  far_none (x ∷ xs) = (refl, far_none xs)

  far_next : (x : K × V) (done xs : Entries K V) → has (on (λ e. e.0) same) x xs ≡ false → AreFar done xs → AreFar (insert_sorted by_all x done) xs
  far_next x done [] none far = tt
  far_next x done (y ∷ ys) none far =
      let parts = or_no (same x.0 y.0) (has (on (λ (e : K × V). e.0) same) x ys) none in (
        ap (list_any (tie y)) (insert_sorted_is_put by_all x done) ∙ list_any-put by_all (tie y) x done
            ∙ rw (tie_turned x y (ties_apart x y parts.0), far.0) refl,
        far_next x done ys parts.1 far.1,
      )

  sorted_done : (done xs : Entries K V) → AreFar done xs → AreDistinct (on (λ e. e.0) same) xs → fold (λ ys x. insert_sorted by_key x ys) done xs ≡ fold (λ ys x. insert_sorted by_all x ys) done xs
  sorted_done done [] far distinct = refl
  sorted_done done (x ∷ xs) far distinct =
      ap (λ t. fold (λ ys y. insert_sorted by_key y ys) t xs)
      (insert_sorted_is_put by_key x done ∙ sym (put_by_key (λ (e : K × V). e.0) by_hash (on (λ (e : K × V). e.1) value_cmp) x done far.0) ∙ sym (insert_sorted_is_put by_all x done))
      ∙ sorted_done (insert_sorted by_all x done) xs (far_next x done xs distinct.0 far.1) distinct.1

  -- ps, which rise by the hashes of their keys, are m in the order of the pairs
  pub pairs_back : (ps : List (Pair K V)) (m : Entries K V) → Rises pair_order ps → AreDistinct (on (λ q. q.key) same) ps → sorted (pair_cmp key_cmp value_cmp) (entries ps) ≡ m
      → AreDistinct (on (λ e. e.0) same) m → sorted by_key m ≡ entries ps
  pairs_back ps m up distinct is apart =
      sorted_done [] m (far_none m) apart
      ∙ ap (sorted by_all) (sym is) ∙ sorted-sorted by_all all_total all_exact (pair_cmp key_cmp value_cmp) (entries ps)
      ∙ sorted_kept by_all all_total all_exact (entries ps) (rises_all ps up distinct)

-- ---- as a walk shows them

pairs_are : (ps : List (Pair Val Val)) → map pair_elem ps ≡ pairs_in_order (entries ps)
pairs_are [] = refl
pairs_are (p ∷ ps) = ap (λ (t : List Elem). pair_elem p ∷ t) (pairs_are ps)

pub pairs_shown : (xs ps : List (Pair Val Val)) (m : Entries Val Val) → xs ≡ ps → entries ps ≡ m → start_of (map pair_elem xs) ≡ start_of (pairs_in_order m)
pairs_shown xs ps m same is =
    ap (λ (t : List (Pair Val Val)). start_of (map pair_elem t)) same ∙ ap (λ (t : List Elem). start_of t) (pairs_are ps)
    ∙ ap (λ (t : Entries Val Val). start_of (pairs_in_order t)) is

pub values_shown : (xs ys : List Val) → xs ≡ ys → start_of (map One xs) ≡ start_of (map One ys)
values_shown xs ys same = ap (λ (t : List Val). start_of (map One t)) same
