-- A well-formed collection under another comparer is one: nothing is added, and what stays is kept by the new comparer.
use Rattle.std.proofs.Common.{◌≡◌, ℕ, suc, ◌+◌, ◌≤◌, Bool, true, false, cond, List, [], ◌∷◌, length, None, Some, Ok, Err, refl, ap, ◌∙◌, arith}
use Rattle.std.specs.Prelude.{zero, ℤ, pos, ◌+ℤ◌, not, Option, Result, fold, IfOk}
use Rattle.std.specs.Ordering.{on}
use Rattle.std.specs.declared.cmp.Ordering.{Ordering}
use Rattle.imm_base.specs.declared.TheConstants.{LIMIT}
use Rattle.imm_base.specs.declared.val.Val.{Val}
use Rattle.imm_base.specs.Order.{val_cmp, val_eq, order_cmp, eq_same}
use Rattle.imm_base.specs.Lists.{insert_sorted, sorted}
use Rattle.imm_base.specs.Sets.{has, with_element, union}
use Rattle.imm_base.specs.Maps.{Entries, value_of, without_key, with_pair, add_over, add_next, add_all}
use Rattle.imm_base.specs.Rekey.{elements_under, pairs_under}
use Rattle.imm_base.specs.Kept.{IsSet, CanKeep}
use Rattle.imm_base.proofs.Inserted.{insert_sorted_is_put, length-put}
use Rattle.imm_base.proofs.KeptSets.{length-filter_most, set_of_union}
use Rattle.imm_base.proofs.KeptMaps.{IsMap, with_pair_map}
use Rattle.plain_model.specs.declared.plain.Kind.{Kind}
use Rattle.plain_model.specs.declared.plain.Kind.TheVariants as kinds
use Rattle.plain_model.specs.declared.plain.Values.{Values}
use Rattle.plain_model.specs.declared.plain.Values.TheVariants as values
use Rattle.plain_model.specs.declared.plain.Plain.{Plain}
use Rattle.plain_model.specs.Plain.{order_of, same_of, elements, pairs, count, IsPlain}
use Rattle.plain_model.specs.Locals.{RekeysPlain, rekeyed, pairs_or_present}
use Rattle.plain_model.proofs.StaysPlain.{of, by_order, by_equality}

module _ {T : Type 0} (cmp : T → T → Ordering) where
  length-insert : (x : T) (xs : List T) → length (insert_sorted cmp x xs) ≡ length xs + 1
  length-insert x xs = ap length (insert_sorted_is_put cmp x xs) ∙ length-put cmp x xs

  length-sorting : (done xs : List T) → length (fold (λ ys x. insert_sorted cmp x ys) done xs) ≡ length done + length xs
  length-sorting done [] = omega arith
  length-sorting done (x ∷ xs) = omega (arith, length-sorting (insert_sorted cmp x done) xs, length-insert x done)

  length-sorted : (xs : List T) → length (sorted cmp xs) ≡ length xs
  length-sorted xs = omega (arith, length-sorting [] xs)

-- ---- sets

module _ (cmp : Val → Val → Ordering) (same : Val → Val → Bool) where
  length-with_element : (x : Val) (xs : List Val) → length (with_element cmp same x xs) ≤ length xs + 1
  length-with_element x xs = elim (has same x xs) as (λ t. length (cond t xs (insert_sorted cmp x xs)) ≤ length xs + 1) [
    | true ↦ omega arith
    | false ↦ omega (arith, length-insert cmp x xs)
  ]

  length-union : (xs ys : List Val) → length (union cmp same xs ys) ≤ length xs + length ys
  length-union xs [] = omega arith
  length-union xs (y ∷ ys) = omega (arith, length-union (with_element cmp same y xs) ys, length-with_element y xs)

  under_fits : (xs : List Val) → length (elements_under val_cmp cmp same xs) ≤ length xs
  under_fits xs = omega (arith, length-union [] (sorted val_cmp xs), length-sorted val_cmp xs)

  -- ---- maps

  -- the pairs that were added, of which there were so many, are a map
  abbrev IsAdded : ℕ → Result (Entries Val Val) Val → Type 0
  IsAdded n (Ok m) = IsMap cmp same m × (length m ≤ n)
  IsAdded n (Err u) = Unit {0}

  module _ (keep : CanKeep cmp same) where
    length-with_pair : (k v : Val) (m : Entries Val Val) → length (with_pair cmp same k v m) ≤ length m + 1
    length-with_pair k v m =
        omega (arith, length-insert (on (λ e. e.0) cmp) (k, v) (without_key same k m), length-filter_most (λ e. not (same k e.0)) m)

    added_over : (n : ℕ) (k v : Val) (m : Entries Val Val) → IsMap cmp same m → length m ≤ n → (found : Option Val) → IsAdded (n + 1) (add_over cmp same val_eq k v m found)
    added_over n k v m is small None = (with_pair_map cmp same keep k v m is, omega (arith, length-with_pair k v m))
    added_over n k v m is small (Some u) =
        elim (val_eq u v) as (λ t. IsAdded (n + 1) (cond t (Ok m) (Err u))) [ true ↦ (is, omega arith) | false ↦ tt ]

    added_next : (n : ℕ) (done : Result (Entries Val Val) Val) (p : Val × Val) → IsAdded n done → IsAdded (n + 1) (add_next cmp same val_eq done p)
    added_next n (Ok m) p is = added_over n p.0 p.1 m is.0 is.1 (value_of same p.0 m)
    added_next n (Err u) p is = tt

    raised : (n m : ℕ) → n ≤ m → (r : Result (Entries Val Val) Val) → IsAdded n r → IsAdded m r
    raised n m le (Ok q) is = (is.0, omega (arith, is.1))
    raised n m le (Err u) is = tt

    added_from : (n : ℕ) (done : Result (Entries Val Val) Val) (ps : Entries Val Val) → IsAdded n done → IsAdded (n + length ps) (fold (add_next cmp same val_eq) done ps)
    added_from n done [] is = raised n (n + 0) (omega arith) done is
    added_from n done (p ∷ ps) is =
        raised (n + 1 + length ps) (n + suc (length ps)) (omega arith) (fold (add_next cmp same val_eq) (add_next cmp same val_eq done p) ps)
        (added_from (n + 1) (add_next cmp same val_eq done p) ps (added_next n done p is))

    under_added : (m : Entries Val Val) → IsAdded (length m) (pairs_under val_cmp cmp same val_eq m)
    under_added m =
        let ps = sorted (on (λ e. e.0) val_cmp) m in
        raised (0 + length ps) (length m) (omega (arith, length-sorted (on (λ e. e.0) val_cmp) m)) (add_all cmp same val_eq ps [])
        (added_from 0 (Ok []) ps (record { rises = tt; distinct = tt }, omega arith))

-- ---- collections

elements_fit : (vs : Values) → length (elements vs) ≤ count vs
elements_fit (values.List xs) = omega arith
elements_fit (values.Pairs ps) = omega arith
elements_fit (values.Seq first n) = at first n
  where
    at : (z : ℤ) (n : ℕ) → length (elements (values.Seq z n)) ≤ n
    at z zero = omega arith
    at z (suc n) = omega (arith, at (z +ℤ pos 1) n)
elements_fit values.Unset = omega arith

pairs_fit : (vs : Values) → length (pairs vs) ≤ count vs
pairs_fit (values.List xs) = omega arith
pairs_fit (values.Pairs ps) = omega arith
pairs_fit (values.Seq first n) = at first n
  where
    at : (z : ℤ) (n : ℕ) → length (pairs (values.Seq z n)) ≤ n
    at z zero = omega arith
    at z (suc n) = omega (arith, at (z +ℤ pos 1) n)
pairs_fit values.Unset = omega arith

fits_under : (kind : Kind) (p : Plain) → IsPlain p → length (elements_under val_cmp (order_of kind) (same_of kind) (elements p.values)) ≤ LIMIT
fits_under kind p is = omega (arith, under_fits (order_of kind) (same_of kind) (elements p.values), elements_fit p.values, is.fits)

set_under : (kind : Kind) → CanKeep (order_of kind) (same_of kind) → (xs : List Val) → IsSet (order_of kind) (same_of kind) (elements_under val_cmp (order_of kind) (same_of kind) xs)
set_under kind keep xs = set_of_union (order_of kind) (same_of kind) keep.total keep.equal keep.ties [] (sorted val_cmp xs) (record { rises = tt; distinct = tt })

map_under : (kind : Kind) (n : ℕ) → n ≤ LIMIT → ((m : Entries Val Val) → IsMap (order_of kind) (same_of kind) m → length m ≤ LIMIT → IsPlain (of kind (values.Pairs m)))
    → (r : Result (Entries Val Val) Val) → IsAdded (order_of kind) (same_of kind) n r → IfOk (pairs_or_present kind r) IsPlain
map_under kind n small f (Ok m) is = f m is.0 (omega (arith, is.1))
map_under kind n small f (Err u) is = tt

few_pairs : (p : Plain) → IsPlain p → length (pairs p.values) ≤ LIMIT
few_pairs p is = omega (arith, pairs_fit p.values, is.fits)

pub rekeys_plain : RekeysPlain
rekeys_plain kinds.List p is = record { fits = fits_under kinds.List p is; kept = tt }
rekeys_plain kinds.Array p is = record { fits = fits_under kinds.Array p is; kept = tt }
rekeys_plain kinds.Stack p is = record { fits = fits_under kinds.Stack p is; kept = tt }
rekeys_plain kinds.Queue p is = record { fits = fits_under kinds.Queue p is; kept = tt }
rekeys_plain (kinds.SSet order) p is =
    record { fits = fits_under (kinds.SSet order) p is; kept = set_under (kinds.SSet order) (by_order order) (elements p.values) }
rekeys_plain (kinds.HSet eq) p is =
    record { fits = fits_under (kinds.HSet eq) p is; kept = set_under (kinds.HSet eq) (by_equality eq) (elements p.values) }
rekeys_plain (kinds.SMap order) p is =
    map_under (kinds.SMap order) (length (pairs p.values)) (few_pairs p is) (λ m h fits. record { fits = fits; kept = h })
    (pairs_under val_cmp (order_cmp order) (same_of (kinds.SMap order)) val_eq (pairs p.values))
    (under_added (order_cmp order) (same_of (kinds.SMap order)) (by_order order) (pairs p.values))
rekeys_plain (kinds.Dict eq) p is =
    map_under (kinds.Dict eq) (length (pairs p.values)) (few_pairs p is) (λ m h fits. record { fits = fits; kept = h })
    (pairs_under val_cmp val_cmp (eq_same eq) val_eq (pairs p.values))
    (under_added val_cmp (eq_same eq) (by_equality eq) (pairs p.values))
