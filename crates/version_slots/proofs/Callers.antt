-- What callers of a cell need: that a pinned version is the end of the history that its front stands for, that new passes are idle, and that passes of all numbers are there.
use Rattle.std.proofs.Common.{◌≡◌, ℕ, zero, suc, ◌+◌, ◌<◌, List, [], ◌∷◌, ◌++◌, map, length, get_or, sym, refl, ap, ◌∙◌, subst, arith}
use Rattle.std.specs.Prelude.{All}
use mathlib.Core.Option.{some, some-injective}
use native.Mathlib.Decide.{ℕ_discrete}
use lib.ListN.{get_elem?}
use Rattle.atomic_table.proofs.Lists.{at_longer, at_last}
use Rattle.version_slots.specs.declared.view.Line.{Line}
use Rattle.version_slots.specs.declared.view.View.{View}
use Rattle.version_slots.specs.Histories.{Shown, Placed, Follows, upto}
use Rattle.version_slots.specs.Views.{counting}
use Rattle.version_slots.specs.Cells.{AreAll, IsIdle, new_view, new_views}
use Rattle.version_slots.proofs.Bases.{upto_ends}
use Rattle.version_slots.proofs.Closes.{at_map}
use Rattle.version_slots.proofs.Rows.{map_at}
use Rattle.version_slots.proofs.Seats.{ends_at}
use Rattle.version_slots.proofs.Shares.{upto_begins}

module _ {A : Type 0} where
  -- what follows the value at a front may be proposed on it
  pub shown_follows : (position_of : A → ℕ) (follows : ℕ → A → A → Type 0) (seen : List (Line A)) (ticket slot number : ℕ) (value next : A) → Placed position_of seen → Shown seen ticket slot value
      → follows number value next → Follows follows number (upto ticket slot seen) next
  shown_follows position_of follows seen ticket slot number value next placed there may = let k = upto_ends ticket slot seen (there.0, there.1, there.2, there.3, there.4) in
      let begins = upto_begins ticket slot seen in
      let at : get_elem? seen (length k.1.0) ≡ some k.0 = ap (λ (h : List (Line A)). get_elem? h (length k.1.0)) begins.1 ∙ at_longer (upto ticket slot seen) begins.0 (length k.1.0) k.0 (ends_at (upto ticket slot seen) k.0 k.1) in
      let same : there.0 ≡ length k.1.0 = placed.1 there.0 (length k.1.0) there.1 k.0 there.2 at (there.3 ∙ sym k.2) in
      let line : there.1 ≡ k.0 = some-injective there.1 k.0 (sym there.2 ∙ (ap (get_elem? seen) same ∙ at)) in
      (k.0, k.1, subst (λ (x : A). follows number x next) (sym there.5 ∙ ap (λ (l : Line A). l.value) line) may)

  pub new_idle : (passes : ℕ) (first : A) (i : ℕ) (v : View A) → get_elem? (new_views passes first) i ≡ some v → IsIdle v
  new_idle passes first i v e = let t = map_at (new_view passes first) (counting 1 passes) i v e in subst (λ (u : View A). IsIdle u) t.2 (refl, refl)

  -- one pass more
  pub all_more : (count : ℕ) (views : List (View A)) (v : View A) → AreAll count views → v.number ≡ count + 1 → AreAll (count + 1) (views ++ v ∷ [])
  all_more count views v all is number pos small = elim (ℕ_discrete number (count + 1)) [
    | yes here ↦ (length views, v, at_last views v (length views) refl, is ∙ sym here)
    | no other ↦ (let t = all number pos (omega arith) in (t.0, t.1, at_longer views (v ∷ []) t.0 t.1 t.2, t.3))
  ]

got : {B : Type 0} (l : List B) (i : ℕ) (d : B) → i < length l → get_elem? l i ≡ some (get_or l i d)
got [] i d h = absurd (omega arith)
got (x ∷ xs) zero d h = refl
got (x ∷ xs) (suc i) d h = got xs i d (omega arith)

-- what holds of each thing that is seen holds of each that is there
pub all_seen : {B C : Type 0} (f : B → C) (P : C → Type 0) (items : List B) (cs : List C) → map f items ≡ cs → ((i : ℕ) (c : C) → get_elem? cs i ≡ some c → P c) → All (λ (b : B). P (f b)) items
all_seen {C = C} f P items cs is each k d small = each k (f (get_or items k d)) (ap (λ (l : List C). get_elem? l k) (sym is) ∙ at_map f items k (get_or items k d) (got items k d small))
