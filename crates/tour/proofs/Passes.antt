-- The passes of a cell, after one of them was used.
use Rattle.std.proofs.Common.{◌≡◌, ℕ, suc, zero, List, [], ◌∷◌, map, sym, ap, ◌∙◌, refl, slice_index_or, slice_set}
use Rattle.std.specs.Prelude.{Result, Ok, Err, IfOk, IfErr}
use mathlib.Core.Option.{some, some-injective, some-ne-none}
use lib.ListN.{get_elem?}
use Rattle.version_slots.specs.declared.view.View.{View}
use Rattle.version_slots.specs.Cells.{AreAll}

module _ {A P : Type 0} (view : P → View A) where
  stays : (xs : List P) (i : ℕ) (p d : P) → (view p).number ≡ (view (slice_index_or xs i d)).number → (j : ℕ) (v : View A) → get_elem? (map view xs) j ≡ some v → (w : View A) × (get_elem? (map view (slice_set xs i p)) j ≡ some w) × (w.number ≡ v.number)
  stays [] i p d same j v at = absurd (some-ne-none v (sym at))
  stays (x ∷ xs) zero p d same zero v at =
      (view p, refl, same ∙ ap (λ (u : View A). u.number) (some-injective (view x) v at))
  stays (x ∷ xs) zero p d same (suc j) v at = (v, at, refl)
  stays (x ∷ xs) (suc i) p d same zero v at = (v, at, refl)
  stays (x ∷ xs) (suc i) p d same (suc j) v at = stays xs i p d same j v at

  -- they are all of the cell's, as before
  pub all_after : (count : ℕ) (xs : List P) (i : ℕ) (p d : P) → (view p).number ≡ (view (slice_index_or xs i d)).number → AreAll count (map view xs) → AreAll count (map view (slice_set xs i p))
  all_after count xs i p d same all number some_number few =
      let a = all number some_number few in
      let b = stays xs i p d same a.0 a.1 a.2 in
      (a.0, b.0, b.1, b.2 ∙ a.3)

-- what holds after a call, however it ended
pub in_any_case : {T E : Type 0} (r : Result T E) {P : T → Type 0} {Q : E → Type 0} {C : Type 0} → IfOk r P → IfErr r Q → ((x : T) → P x → C) → ((y : E) → Q y → C) → C
in_any_case (Ok x) ok err f h = f x ok
in_any_case (Err y) ok err f h = h y err
