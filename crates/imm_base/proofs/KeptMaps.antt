-- A map stays a map under each of its operations.
use Rattle.std.proofs.Common.{◌≡◌, suc, ◌+◌, ◌≤◌, Bool, true, false, not, cond, ◌||◌, List, [], ◌∷◌, length, arith, ap, sym, ◌∙◌, refl}
use Rattle.std.specs.Prelude.{Option, Some, None, is_some, find, filter, fold, Result, Ok, Err, ◌&&◌, if◌then◌else◌}
use Rattle.std.specs.List.{list_any, list_all}
use Rattle.std.specs.Cmp.{on_total, on_equiv}
use Rattle.std.specs.Ordering.{on}
use Rattle.std.specs.declared.cmp.Ordering.{Ordering}
use Rattle.imm_base.specs.declared.TheConstants.{LIMIT}
use Rattle.imm_base.specs.declared.val.Edit.TheVariants.{Same, New}
use Rattle.imm_base.specs.Edits.{Gives, is_over, edit, too_large, key_exists}
use Rattle.imm_base.specs.Maps.{Entries, has_key, value_of, without_key, has_pair, with_pair, set_pair, set_all, add_over, add_next, add_all, pair_eq, map_with, map_add_over, map_add, map_set, map_set_all, added, map_add_all, map_remove, map_remove_all}
use Rattle.imm_base.specs.Kept.{IsSet, CanKeep, IsPlainMap, IfNew}
use Rattle.imm_base.proofs.Inserted.{insert_sorted_is_put, length-put}
use Rattle.imm_base.proofs.KeptSets.{fits, length-filter_most, set_filter, set_insert, plain_filter, if_kept, edit_kept}

pub is_some-find : {X : Type 0} (p : X → Bool) (xs : List X) → is_some (find p xs) ≡ list_any p xs
is_some-find p [] = refl
is_some-find p (x ∷ xs) = elim (p x) as (λ t. is_some (cond t (Some x) (find p xs)) ≡ (t || list_any p xs)) [
  | true ↦ refl
  | false ↦ is_some-find p xs
]

pub none_left : {X : Type 0} (p : X → Bool) (xs : List X) → list_any p (filter (λ x. not (p x)) xs) ≡ false
none_left p [] = refl
none_left p (x ∷ xs) = elim (p x) as (λ t. p x ≡ t → list_any p (cond (not t) (x ∷ filter (λ y. not (p y)) xs) (filter (λ y. not (p y)) xs)) ≡ false) [
  | true ↦ λ _. none_left p xs
  | false ↦ λ e. rw e (none_left p xs)
] refl

-- nothing goes where the key is not present
pub none_out : {K V : Type 0} (same : K → K → Bool) (k : K) (m : Entries K V) → has_key same k m ≡ false → without_key same k m ≡ m
none_out same k [] none = refl
none_out same k (e ∷ m) none = elim (same k e.0) as (λ t. same k e.0 ≡ t → cond (not t) (e ∷ without_key same k m) (without_key same k m) ≡ e ∷ m) [
  | true ↦ λ is. absurd (let some = rw is at none in cc)
  | false ↦ λ is. ap (λ t. e ∷ t) (none_out same k m (rw is at none))
] refl

length-filter_fewer : {X : Type 0} (p : X → Bool) (xs : List X) → list_any p xs ≡ true → length (filter (λ x. not (p x)) xs) + 1 ≤ length xs
length-filter_fewer p [] e = absurd (let f : false ≡ true = e in cc)
length-filter_fewer p (x ∷ xs) e = elim (p x) as (λ t. (t || list_any p xs) ≡ true → length (cond (not t) (x ∷ filter (λ y. not (p y)) xs) (filter (λ y. not (p y)) xs)) + 1 ≤ suc (length xs)) [
  | true ↦ λ _. omega (arith, length-filter_most (λ y. not (p y)) xs)
  | false ↦ λ f. omega (arith, length-filter_fewer p xs f)
] e

module _ {K V : Type 0} (cmp : K → K → Ordering) (same : K → K → Bool) where
  -- the map of a list of pairs, of any length
  abbrev pub IsMap : Entries K V → Type 0
  IsMap m = IsSet (on (λ e. e.0) cmp) (on (λ e. e.0) same) m

  pub without_kept : (k : K) (m : Entries K V) → IsPlainMap cmp same m → IsPlainMap cmp same (without_key same k m)
  without_kept k m is = plain_filter (on (λ e. e.0) cmp) (on (λ e. e.0) same) (λ e. not (same k e.0)) m is

  without_all_kept : (ks : List K) (m : Entries K V) → IsPlainMap cmp same m → IsPlainMap cmp same (fold (λ n k. without_key same k n) m ks)
  without_all_kept [] m is = is
  without_all_kept (k ∷ ks) m is = without_all_kept ks (without_key same k m) (without_kept k m is)

  pub map_remove_kept : (k : K) (m : Entries K V) → IsPlainMap cmp same m → IfNew {V = V} (map_remove same k m) (IsPlainMap cmp same)
  map_remove_kept k m is =
      if_kept V (IsPlainMap cmp same) (has_key same k m) (Ok (New (without_key same k m))) (Ok Same) (λ _. without_kept k m is) (λ _. tt)

  pub map_remove_all_kept : (ks : List K) (m : Entries K V) → IsPlainMap cmp same m → IfNew {V = V} (map_remove_all same ks m) (IsPlainMap cmp same)
  map_remove_all_kept ks m is =
      if_kept V (IsPlainMap cmp same) (list_any (λ k. has_key same k m) ks) (Ok (New (fold (λ n k. without_key same k n) m ks))) (Ok Same) (λ _. without_all_kept ks m is) (λ _. tt)

  module _ (keep : CanKeep cmp same) where
    pub by_keys : CanKeep {T = K × V} (on (λ e. e.0) cmp) (on (λ e. e.0) same)
    by_keys = record {
      total = on_total (λ e. e.0) keep.total;
      equal = on_equiv (λ e. e.0) keep.equal;
      ties = λ a b e. keep.ties a.0 b.0 e;
    }

    pub with_pair_map : (k : K) (v : V) (m : Entries K V) → IsMap m → IsMap (with_pair cmp same k v m)
    with_pair_map k v m is =
        set_insert (on (λ e. e.0) cmp) (on (λ e. e.0) same) by_keys.total by_keys.equal by_keys.ties (k, v) (without_key same k m)
        (none_left (λ e. same k e.0) m) (set_filter (on (λ e. e.0) cmp) (on (λ e. e.0) same) (λ e. not (same k e.0)) m is)

    length-with_pair : (k : K) (v : V) (m : Entries K V) → length (with_pair cmp same k v m) ≡ length (without_key same k m) + 1
    length-with_pair k v m = ap length (insert_sorted_is_put (on (λ e. e.0) cmp) (k, v) (without_key same k m)) ∙ length-put (on (λ e. e.0) cmp) (k, v) (without_key same k m)

    with_fits : (k : K) (v : V) (m : Entries K V) → length m ≤ LIMIT → (there : Bool) → has_key same k m ≡ there → (not there && is_over (length m + 1)) ≡ false → length (with_pair cmp same k v m) ≤ LIMIT
    with_fits k v m small true there room =
        let fewer = length-filter_fewer (λ e. same k e.0) m (sym (is_some-find (λ e. same k e.0) m) ∙ there) in
        omega (arith, length-with_pair k v m, fewer, small)
    with_fits k v m small false there room =
        omega (arith, length-with_pair k v m, length-filter_most (λ e. not (same k e.0)) m, fits (length m + 1) room)

    pub map_with_kept : (k : K) (v : V) (m : Entries K V) → IsPlainMap cmp same m → IfNew {V = V} (map_with cmp same k v m) (IsPlainMap cmp same)
    map_with_kept k v m is =
        if_kept V (IsPlainMap cmp same) (not (has_key same k m) && is_over (length m + 1)) (Err (too_large (length m))) (Ok (New (with_pair cmp same k v m))) (λ _. tt) (λ room.
        record { fits = with_fits k v m is.fits (has_key same k m) refl room; set = with_pair_map k v m is.set })

    module _ (eq : V → V → Bool) where
      add_over_kept : (k : K) (v : V) (m : Entries K V) → IsPlainMap cmp same m → (found : Option V) → IfNew {V = V} (map_add_over cmp same eq k v m found) (IsPlainMap cmp same)
      add_over_kept k v m is None = map_with_kept k v m is
      add_over_kept k v m is (Some u) = if_kept V (IsPlainMap cmp same) (eq u v) (Ok Same) (Err (key_exists u)) (λ _. tt) (λ _. tt)

      pub map_add_kept : (k : K) (v : V) (m : Entries K V) → IsPlainMap cmp same m → IfNew {V = V} (map_add cmp same eq k v m) (IsPlainMap cmp same)
      map_add_kept k v m is = add_over_kept k v m is (value_of same k m)

      pub map_set_kept : (k : K) (v : V) (m : Entries K V) → IsPlainMap cmp same m → IfNew {V = V} (map_set cmp same eq k v m) (IsPlainMap cmp same)
      map_set_kept k v m is =
          if_kept V (IsPlainMap cmp same) (has_pair same eq k v m) (Ok Same) (map_with cmp same k v m) (λ _. tt) (λ _. map_with_kept k v m is)

      set_pair_map : (k : K) (v : V) (m : Entries K V) → IsMap m → IsMap (set_pair cmp same eq k v m)
      set_pair_map k v m is = elim (has_pair same eq k v m) as (λ t. IsMap (cond t m (with_pair cmp same k v m))) [ true ↦ is | false ↦ with_pair_map k v m is ]

      pub set_all_map : (ps m : Entries K V) → IsMap m → IsMap (set_all cmp same eq ps m)
      set_all_map [] m is = is
      set_all_map (p ∷ ps) m is = set_all_map ps (set_pair cmp same eq p.0 p.1 m) (set_pair_map p.0 p.1 m is)

      pub map_set_all_kept : (ps m : Entries K V) → IsPlainMap cmp same m → IfNew {V = V} (map_set_all cmp same eq ps m) (IsPlainMap cmp same)
      map_set_all_kept ps m is =
          let new : Gives V (Entries K V) = Ok (New (set_all cmp same eq ps m)) in
          let unchanged : Bool = list_all (λ p. has_pair same eq p.0 p.1 m) ps in
          if_kept V (IsPlainMap cmp same) (is_over (length (set_all cmp same eq ps m))) (Err (too_large (length m))) (if unchanged then Ok Same else new) (λ _. tt) (λ small.
          if_kept V (IsPlainMap cmp same) unchanged (Ok Same) new (λ _. tt) (λ _.
          record { fits = fits (length (set_all cmp same eq ps m)) small; set = set_all_map ps m is.set }))

      -- what holds of the pairs that were added
      abbrev pub IfAdded : Result (Entries K V) V → Type 0
      IfAdded (Ok m) = IsMap m
      IfAdded (Err u) = Unit {0}

      added_over : (k : K) (v : V) (m : Entries K V) → IsMap m → (found : Option V) → IfAdded (add_over cmp same eq k v m found)
      added_over k v m is None = with_pair_map k v m is
      added_over k v m is (Some u) = elim (eq u v) as (λ t. IfAdded (cond t (Ok m) (Err u))) [ true ↦ is | false ↦ tt ]

      pub added_next : (done : Result (Entries K V) V) (p : K × V) → IfAdded done → IfAdded (add_next cmp same eq done p)
      added_next (Ok m) p is = added_over p.0 p.1 m is (value_of same p.0 m)
      added_next (Err u) p is = tt

      pub added_from : (done : Result (Entries K V) V) (ps : Entries K V) → IfAdded done → IfAdded (fold (add_next cmp same eq) done ps)
      added_from done [] is = is
      added_from done (p ∷ ps) is = added_from (add_next cmp same eq done p) ps (added_next done p is)

      added_kept : (key_eq : K → K → Bool) (m : Entries K V) (done : Result (Entries K V) V) → IfAdded done → IfNew {V = V} (added key_eq eq m done) (IsPlainMap cmp same)
      added_kept key_eq m (Err u) is = tt
      added_kept key_eq m (Ok n) is =
          if_kept V (IsPlainMap cmp same) (is_over (length n)) (Err (too_large (length m))) (edit (pair_eq key_eq eq) m n) (λ _. tt) (λ small.
          edit_kept V (IsPlainMap cmp same) (pair_eq key_eq eq) m n (record { fits = fits (length n) small; set = is }))

      pub map_add_all_kept : (key_eq : K → K → Bool) (ps m : Entries K V) → IsPlainMap cmp same m → IfNew {V = V} (map_add_all key_eq cmp same eq ps m) (IsPlainMap cmp same)
      map_add_all_kept key_eq ps m is = added_kept key_eq m (add_all cmp same eq ps m) (added_from (Ok m) ps is.set)
