-- The pairs of a map put in another order of their keys: setting them one after another puts them in order.
use Rattle.std.proofs.Common.{◌≡◌, Bool, true, false, cond, ◌||◌, List, [], ◌∷◌, ap, ◌∙◌, refl}
use Rattle.std.specs.Prelude.{Option, Some, None, is_some, find}
use Rattle.std.specs.List.{list_any}
use Rattle.std.specs.Option.{option_map, option_map_or}
use Rattle.std.specs.Cmp.{IsTotalOrder, eq_by_cmp_equiv, on_equiv}
use Rattle.std.specs.Ordering.{on, eq_by_cmp}
use Rattle.std.specs.declared.cmp.Ordering.{Ordering}
use Rattle.imm_base.specs.Kept.{IsExact}
use Rattle.imm_base.specs.Lists.{insert_sorted, sorted}
use Rattle.imm_base.specs.Maps.{Entries, entry_of, has_pair, without_key, with_pair, set_pair, set_all}
use Rattle.avl_node.proofs.Steps.{distinct_weaker, exact_equal, set_from_rises, steps_sort}
use Rattle.sorted_maps.specs.Ordered.{KeysRise}
use Rattle.imm_base.proofs.KeptMaps.{none_out}

nothing_found : {X : Type 0} (p : X → Bool) (xs : List X) → list_any p xs ≡ false → find p xs ≡ None
nothing_found p [] none = refl
nothing_found p (x ∷ xs) none = elim (p x) as (λ t. (t || list_any p xs) ≡ false → cond t (Some x) (find p xs) ≡ None) [
  | true ↦ λ f. absurd cc
  | false ↦ λ f. nothing_found p xs f
] none

module _ {K V : Type 0} (other : K → K → Ordering) (eq : V → V → Bool) where
  set_is_insert : (done : Entries K V) (e : K × V) → list_any (λ d. eq_by_cmp other e.0 d.0) done ≡ false → set_pair other (eq_by_cmp other) eq e.0 e.1 done ≡ insert_sorted (on (λ d. d.0) other) e done
  set_is_insert done e none =
      let missing : entry_of (eq_by_cmp other) e.0 done ≡ None = nothing_found (λ d. eq_by_cmp other e.0 d.0) done none in
      let absent : has_pair (eq_by_cmp other) eq e.0 e.1 done ≡ false = ap (λ (t : Option (K × V)). option_map_or (λ u. eq u e.1) (option_map (λ d. d.1) t) false) missing in
      let rest : without_key (eq_by_cmp other) e.0 done ≡ done = none_out (eq_by_cmp other) e.0 done (ap is_some missing) in
      ap (λ t. cond t done (with_pair other (eq_by_cmp other) e.0 e.1 done)) absent ∙ ap (λ t. insert_sorted (on (λ d. d.0) other) (e.0, e.1) t) rest

  pub set_all_sorts : IsTotalOrder other → IsExact other → (c : K → K → Ordering) → IsTotalOrder c → (m : Entries K V) → KeysRise c m → set_all other (eq_by_cmp other) eq m [] ≡ sorted (on (λ d. d.0) other) m
  set_all_sorts total exact c total_c m up =
      steps_sort (on (λ d. d.0) other) (on (λ d. d.0) (eq_by_cmp other)) (on_equiv (λ d. d.0) (eq_by_cmp_equiv total)) (λ done e. set_pair other (eq_by_cmp other) eq e.0 e.1 done) set_is_insert m
      (distinct_weaker (on (λ d. d.0) (eq_by_cmp other)) (on (λ d. d.0) (eq_by_cmp c)) (λ a b e. exact_equal other exact c total_c a.0 b.0 e) m (set_from_rises (on (λ d. d.0) c) m up.rise).distinct)
