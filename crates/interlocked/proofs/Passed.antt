-- The passes of a new cell, and the same later: among them is one of each number.
use Rattle.std.proofs.Common.{◌≡◌, ℕ, zero, suc, ◌+◌, ◌-◌, ◌<◌, ◌≤◌, List, [], ◌∷◌, All, length, map, get_or, sym, refl, ap, ◌∙◌, subst, arith}
use mathlib.Core.Option.{some}
use lib.ListN.{get_elem?}
use Rattle.atomic_table.specs.Seated.{TableId}
use Rattle.version_slots.specs.Views.{counting}
use Rattle.version_slots.specs.Cells.{AreAll}
use Rattle.interlocked.specs.declared.entry.Kept.{Kept}
use Rattle.interlocked.specs.Known.{Known}
use Rattle.interlocked.specs.Whole.{new_pass, new_passes}

there : {B : Type 0} (l : List B) (i : ℕ) (d : B) → i < length l → get_elem? l i ≡ some (get_or l i d)
there [] i d h = absurd (omega arith)
there (x ∷ xs) zero d h = refl
there (x ∷ xs) (suc i) d h = there xs i d (omega arith)

mapped : {B C : Type 0} (f : B → C) (l : List B) (i : ℕ) (b : B) → get_elem? l i ≡ some b → get_elem? (map f l) i ≡ some (f b)
mapped f [] i b e = absurd (mathlib.Core.Option.some-ne-none b (sym e))
mapped f (x ∷ xs) zero b e = ap (λ c. some (f c)) (mathlib.Core.Option.some-injective x b e)
mapped f (x ∷ xs) (suc i) b e = mapped f xs i b e

module _ (table : TableId) (passes : ℕ) (first : Kept) where
  at_new : (from count k : ℕ) (d : Known) → k < count → get_or (map (new_pass table passes first) (counting from count)) k d ≡ new_pass table passes first (from + k)
  at_new from zero k d near = absurd (omega arith)
  at_new from (suc count) zero d near = let e : from ≡ from + 0 = omega arith in ap (new_pass table passes first) e
  at_new from (suc count) (suc k) d near = let e : suc from + k ≡ from + suc k = omega arith in at_new (suc from) count k d (omega arith) ∙ ap (new_pass table passes first) e

  new_length : (from count : ℕ) → length (map (new_pass table passes first) (counting from count)) ≡ count
  new_length from zero = refl
  new_length from (suc count) = let h = new_length (suc from) count in omega arith

  module _ (xs : List Known) (new : xs ≡ new_passes table passes first) where
    at_pass : (k : ℕ) (d : Known) → k < length xs → get_or xs k d ≡ new_pass table passes first (1 + k)
    at_pass k d near = let many = ap length new ∙ new_length 1 passes in ap (λ (l : List Known). get_or l k d) new ∙ at_new 1 passes k d (omega arith)

    -- a new pass belongs to the cell and has made no call
    pub all_new : All (λ (p : Known). (p.table ≡ table) × (p.last ≡ 0) × (p.kind ≡ first.value.kind)) xs
    all_new k d near = subst (λ (p : Known). (p.table ≡ table) × (p.last ≡ 0) × (p.kind ≡ first.value.kind)) (sym (at_pass k d near)) (refl, refl, refl)

    module _ (ys : List Known) (same : length ys ≡ length xs) (later : (k : ℕ) (d : Known) → k < length xs → ((get_or ys k d).table ≡ (get_or xs k d).table) × ((get_or ys k d).view.number ≡ (get_or xs k d).view.number)) where
      pub all_of_cell : All (λ (p : Known). p.table ≡ table) ys
      all_of_cell k d near = let small : k < length xs = omega arith in (later k d small).0 ∙ ap (λ (p : Known). p.table) (at_pass k d small)

      pub are_all : AreAll passes (map (λ (p : Known). p.view) ys)
      are_all number some_number few =
          let many = ap length new ∙ new_length 1 passes in let i : ℕ = number - 1 in let small : i < length xs = omega arith in let near : i < length ys = omega arith in
          let d : Known = new_pass table passes first 0 in
          let one : 1 + i ≡ number = omega arith in (
            i,
            (get_or ys i d).view,
            mapped (λ (p : Known). p.view) ys i (get_or ys i d) (there ys i d near),
            (later i d small).1 ∙ (ap (λ (p : Known). p.view.number) (at_pass i d small) ∙ one),
          )
