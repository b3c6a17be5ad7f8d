-- The place of a key in a map, as a search of the tree finds it.
use Rattle.std.proofs.Common.{◌≡◌, ℕ, Bool, true, false, ◌||◌, List, [], ◌∷◌, ap, sym, ◌∙◌, refl, subst}
use Rattle.std.specs.List.{list_any}
use Rattle.std.specs.Cmp.{IsTotalOrder}
use Rattle.std.specs.Ordering.{on, eq_by_cmp}
use Rattle.std.specs.declared.cmp.Ordering.{Ordering}
use Rattle.imm_base.specs.declared.pair.Pair.{Pair}
use Rattle.imm_base.specs.Kept.{Rises}
use Rattle.imm_base.specs.Lists.{insert_sorted}
use Rattle.imm_base.specs.Maps.{Entries}
use Rattle.imm_base.proofs.KeptMaps.{is_some-find}
use Rattle.imm_base.proofs.KeptSets.{rises_filter}
use Rattle.avl_node.proofs.Keyed.{IsKeyAt, IsKeyMissingAt}
use Rattle.avl_node.specs.Search.{IsFoundAt, IsMissingAt}
use Rattle.avl_node.specs.Sides.{lower_bound, is_equal_at, SidesAscend}
use Rattle.avl_node.proofs.Keys.{ascend_from_rises, key_at, key_missing_at, rises_with, lower_bound-map, is_equal_at-map, rises_from_map}
use Rattle.sorted_maps.specs.Ordered.{KeysRise, entry, entries}
use Rattle.sorted_maps.specs.Placed.{IsAt, IsAbsentAt}

pub any-entries : {K V : Type 0} (test : V → Bool) (ps : List (Pair K V)) → list_any (λ p. test p.value) ps ≡ list_any (λ e. test e.1) (entries ps)
any-entries test [] = refl
any-entries test (p ∷ ps) = ap (λ t. test p.value || t) (any-entries test ps)

module _ {K V : Type 0} (cmp : K → K → Ordering) (total : IsTotalOrder cmp) (k : K) (m : Entries K V) (up : KeysRise cmp m) where
  -- the pairs of a tree, as a search for the key has them
  pub ascends : (ps : List (Pair K V)) → entries ps ≡ m → SidesAscend (λ (p : Pair K V). cmp p.key k) ps
  ascends ps is =
      ascend_from_rises (λ (p : Pair K V). p.key) cmp total k ps (rises_from_map entry (on (λ e. e.0) cmp) ps (subst (λ (t : Entries K V). KeysRise cmp t) (sym is) up).rise)

  module _ (ps : List (Pair K V)) (is : entries ps ≡ m) (i : ℕ) where
    there : (found : Bool) → is_equal_at (λ (p : Pair K V). cmp p.key k) ps i ≡ found → is_equal_at (λ (e : K × V). cmp e.0 k) m i ≡ found
    there found e = ap (λ (t : Entries K V). is_equal_at (λ (e : K × V). cmp e.0 k) t i) (sym is) ∙ sym (is_equal_at-map entry (λ e. cmp e.0 k) ps i) ∙ e

    pub is_at : IsFoundAt (λ (p : Pair K V). cmp p.key k) ps i → IsAt cmp k m i
    is_at f =
        let at : IsKeyAt (λ (e : K × V). e.0) cmp k m i = key_at (λ e. e.0) cmp total k m i up.rise (there true f.equal) in
        record {
          there = is_some-find (λ e. eq_by_cmp cmp k e.0) m ∙ at.there;
          inside = at.inside;
          pair = at.element;
          removed = at.removed;
          removed_rise = record { rise = subst (Rises (on (λ e. e.0) cmp)) (sym at.removed) (rises_filter (on (λ e. e.0) cmp) _ m up.rise) };
          replaced = λ v. at.replaced (k, v) refl;
          replaced_rise = λ v. record { rise = subst (Rises (on (λ e. e.0) cmp)) (sym (at.replaced (k, v) refl)) (rises_with (λ e. e.0) cmp total (k, v) m up.rise) };
        }

    pub is_absent_at : IsMissingAt (λ (p : Pair K V). cmp p.key k) ps i → IsAbsentAt cmp k m i
    is_absent_at a =
        let place : i ≡ lower_bound (λ (e : K × V). cmp e.0 k) m = a.place ∙ lower_bound-map entry (λ e. cmp e.0 k) ps ∙ ap (λ (t : Entries K V). lower_bound (λ (e : K × V). cmp e.0 k) t) is in
        let at : IsKeyMissingAt (λ (e : K × V). e.0) cmp k m i = key_missing_at (λ e. e.0) cmp total k m i up.rise place (there false a.equal) in
        let inserted = λ (v : V). at.inserted (k, v) refl ∙ ap (λ (t : Entries K V). insert_sorted (on (λ e. e.0) cmp) (k, v) t) (sym at.whole) in
        record {
          missing = is_some-find (λ e. eq_by_cmp cmp k e.0) m ∙ at.missing;
          inside = at.inside;
          none = at.none;
          whole = at.whole;
          inserted = inserted;
          inserted_rise = λ v. record { rise = subst (Rises (on (λ e. e.0) cmp)) (sym (inserted v)) (rises_with (λ e. e.0) cmp total (k, v) m up.rise) };
        }
