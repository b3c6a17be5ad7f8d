-- Pairs that are added, set or removed one after another.
use Rattle.std.proofs.Common.{◌≡◌, ℕ, ◌+◌, ◌<◌, ◌≤◌, ◌⊎◌, inl, inr, Bool, true, false, cond, [], ◌∷◌, length, take, drop, get_or, arith, ap, sym, ◌∙◌, refl, subst}
use Rattle.std.specs.Prelude.{Option, Some, None, is_some, fold, Result, Ok, Err}
use Rattle.std.specs.Option.{option_map}
use Rattle.std.specs.Cmp.{IsEquivalence}
use Rattle.std.specs.Ordering.{on}
use Rattle.std.specs.declared.cmp.Ordering.{Ordering}
use Rattle.std.proofs.lemmas.Bool.{le-ltb}
use Rattle.std.proofs.lemmas.List.{take-append-drop}
use Rattle.std.proofs.lemmas.List.Sums.{fold_more, fold-append}
use Rattle.imm_base.specs.declared.val.Edit.TheVariants.{Same}
use Rattle.imm_base.specs.declared.TheConstants.{LIMIT}
use Rattle.imm_base.specs.Edits.{is_over}
use Rattle.imm_base.specs.Maps.{Entries, entry_of, has_key, value_of, has_pair, without_key, with_pair, set_pair, set_all, add_over, add_next, add_all, pair_eq, added, map_add_all}
use Rattle.imm_base.proofs.Inserted.{insert_sorted_is_put, length-put}
use Rattle.imm_base.proofs.KeptMaps.{none_out}
use lib.Pointwise.{pointwise}

module _ {K V : Type 0} (c : K → K → Ordering) (same : K → K → Bool) (eq : V → V → Bool) where
  -- a pair that is not present
  pub set_absent : (k : K) (v : V) (m : Entries K V) → has_pair same eq k v m ≡ false → set_pair c same eq k v m ≡ with_pair c same k v m
  set_absent k v m none = rw none refl

  -- ---- one more element

  pub set_more : (i : ℕ) (ps m n : Entries K V) (p : K × V) → i < length ps → p ≡ get_or ps i p → n ≡ set_all c same eq (take i ps) m → set_pair c same eq p.0 p.1 n ≡ set_all c same eq (take (i + 1) ps) m
  set_more i ps m n p below at is =
      ap (λ t. set_pair c same eq p.0 p.1 t) is ∙ ap (λ q. set_pair c same eq q.0 q.1 (set_all c same eq (take i ps) m)) at
      ∙ sym (fold_more (λ done q. set_pair c same eq q.0 q.1 done) m ps i p below)

  pub add_more : (i : ℕ) (ps m n : Entries K V) (p : K × V) → i < length ps → p ≡ get_or ps i p → add_all c same eq (take i ps) m ≡ Ok n → add_all c same eq (take (i + 1) ps) m ≡ add_over c same eq p.0 p.1 n (value_of same p.0 n)
  add_more i ps m n p below at is =
      fold_more (add_next c same eq) (Ok m) ps i p below ∙ ap (λ q. add_next c same eq (add_all c same eq (take i ps) m) q) (sym at) ∙ ap (λ t. add_next c same eq t p) is

  refused_stays : (u : V) (ps : Entries K V) → fold (add_next c same eq) (Err u) ps ≡ Err u
  refused_stays u [] = refl
  refused_stays u (p ∷ ps) = refused_stays u ps

  -- what is refused among the first is refused
  pub add_refused : (i : ℕ) (ps m : Entries K V) (u : V) → add_all c same eq (take i ps) m ≡ Err u → add_all c same eq ps m ≡ Err u
  add_refused i ps m u is =
      ap (λ t. add_all c same eq t m) (sym (take-append-drop i ps)) ∙ fold-append (add_next c same eq) (Ok m) (take i ps) (drop i ps)
      ∙ ap (λ t. fold (add_next c same eq) t (drop i ps)) is ∙ refused_stays u (drop i ps)

  -- ---- what is added makes a map longer

  -- the map as it was, or a longer one
  abbrev pub IsGrown : Entries K V → Result (Entries K V) V → Type 0
  IsGrown m (Ok n) = (n ≡ m) ⊎ (length m < length n)
  IsGrown m (Err u) = Unit {0}

  no_entry : (k : K) (m : Entries K V) → value_of same k m ≡ None → has_key same k m ≡ false
  no_entry k m none = elim (entry_of same k m) as (λ (t : Option (K × V)). option_map (λ e. e.1) t ≡ None → is_some t ≡ false) [
    | Some e ↦ λ f. absurd cc
    | None ↦ λ _. refl
  ] none

  length-added : (k : K) (v : V) (m : Entries K V) → has_key same k m ≡ false → length (with_pair c same k v m) ≡ length m + 1
  length-added k v m none =
      ap length (insert_sorted_is_put (on (λ e. e.0) c) (k, v) (without_key same k m)) ∙ length-put (on (λ e. e.0) c) (k, v) (without_key same k m)
      ∙ ap (λ (t : Entries K V). length t + 1) (none_out same k m none)

  longer : (m n o : Entries K V) → (n ≡ m) ⊎ (length m < length n) → length n < length o → length m < length o
  longer m n o (inl is) more = subst (λ (t : Entries K V). length t < length o) is more
  longer m n o (inr less) more = omega arith

  over_grown : (k : K) (v : V) (m n : Entries K V) → (n ≡ m) ⊎ (length m < length n) → (found : Option V) → value_of same k n ≡ found → IsGrown m (add_over c same eq k v n found)
  over_grown k v m n up None is =
      inr (longer m n (with_pair c same k v n) up (let more : length (with_pair c same k v n) ≡ length n + 1 = length-added k v n (no_entry k n is) in omega arith))
  over_grown k v m n up (Some u) is = elim (eq u v) as (λ t. IsGrown m (cond t (Ok n) (Err u))) [ true ↦ up | false ↦ tt ]

  next_grown : (m : Entries K V) (done : Result (Entries K V) V) (p : K × V) → IsGrown m done → IsGrown m (add_next c same eq done p)
  next_grown m (Ok n) p up = over_grown p.0 p.1 m n up (value_of same p.0 n) refl
  next_grown m (Err u) p up = tt

  all_grown : (m : Entries K V) (done : Result (Entries K V) V) (ps : Entries K V) → IsGrown m done → IsGrown m (fold (add_next c same eq) done ps)
  all_grown m done [] up = up
  all_grown m done (p ∷ ps) up = all_grown m (add_next c same eq done p) ps (next_grown m done p up)

  pub added_grown : (ps m n : Entries K V) → add_all c same eq ps m ≡ Ok n → (n ≡ m) ⊎ (length m < length n)
  added_grown ps m n is = subst (IsGrown m) is (all_grown m (Ok m) ps (inl refl))

module _ {K V : Type 0} (key_eq : K → K → Bool) (eq : V → V → Bool) where
  all_equal : ((a : K) → key_eq a a ≡ true) → ((a : V) → eq a a ≡ true) → (m : Entries K V) → pointwise (pair_eq key_eq eq) m m ≡ true
  all_equal keys values [] = refl
  all_equal keys values (e ∷ m) = rw (keys e.0, values e.1) (all_equal keys values m)

  pub unchanged : IsEquivalence key_eq → IsEquivalence eq → (m n : Entries K V) → (n ≡ m) ⊎ (length m < length n) → length n ≡ length m → pointwise (pair_eq key_eq eq) m n ≡ true
  unchanged keys values m n (inl is) same = subst (λ (t : Entries K V). pointwise (pair_eq key_eq eq) m t ≡ true) (sym is) (all_equal keys.refl values.refl m)
  unchanged keys values m n (inr less) same = absurd (omega arith)

  -- what makes a map no longer leaves it as it is
  pub added_same : (c : K → K → Ordering) (same : K → K → Bool) → IsEquivalence key_eq → IsEquivalence eq → (ps m n : Entries K V) → add_all c same eq ps m ≡ Ok n → length n ≤ LIMIT → length n ≡ length m → map_add_all key_eq c same eq ps m ≡ Ok Same
  added_same c same keys values ps m n is small level =
      let fits : is_over (length n) ≡ false = le-ltb LIMIT (length n) small in
      ap (λ t. added key_eq eq m t) is ∙ rw (fits, unchanged keys values m n (added_grown c same eq ps m n is) level) refl
