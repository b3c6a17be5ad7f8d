-- Places of lists.
use Rattle.std.proofs.Common.{◌≡◌, ℕ, zero, suc, ◌+◌, ◌<◌, List, [], ◌∷◌, ◌++◌, length, map, get_or, sym, refl, ap, ◌∙◌, arith}
use mathlib.Core.Option.{some, some-injective, some-ne-none}
use Rattle.version_slots.specs.Views.{counting}
use Rattle.registry.specs.Requests.{Has}

pub some_at : {B : Type 0} (l : List B) (i : ℕ) → i < length l → (b : B) × Has l i b
some_at [] i h = absurd (omega arith)
some_at (x ∷ xs) zero h = (x, refl)
some_at (x ∷ xs) (suc i) h = some_at xs i (omega arith)

pub map_length : {B D : Type 0} (f : B → D) (l : List B) → length (map f l) ≡ length l
map_length f [] = refl
map_length f (x ∷ xs) = let h = map_length f xs in omega arith

pub is_at : {B : Type 0} (l : List B) (i : ℕ) (b d : B) → Has l i b → get_or l i d ≡ b
is_at [] i b d e = absurd (some-ne-none b (sym e))
is_at (x ∷ xs) zero b d e = some-injective x b e
is_at (x ∷ xs) (suc i) b d e = is_at xs i b d e

pub at_longer : {B : Type 0} (l m : List B) (i : ℕ) (b : B) → Has l i b → Has (l ++ m) i b
at_longer [] m i b e = absurd (some-ne-none b (sym e))
at_longer (x ∷ xs) m zero b e = e
at_longer (x ∷ xs) m (suc i) b e = at_longer xs m i b e

pub behind : {B : Type 0} (l m : List B) (i : ℕ) (b : B) → Has m i b → (j : ℕ) × Has (l ++ m) j b
behind [] m i b e = (i, e)
behind (x ∷ xs) m i b e = let t = behind xs m i b e in (suc t.0, t.1)

pub only : {B : Type 0} (x b : B) (i : ℕ) → Has (x ∷ []) i b → b ≡ x
only x b zero e = sym (some-injective x b e)
only x b (suc i) e = absurd (some-ne-none b (sym e))

pub counted : (from n k : ℕ) → k < n → Has (counting from n) k (from + k)
counted from zero k h = absurd (omega arith)
counted from (suc n) zero h = let e : from ≡ from + 0 = omega arith in ap (λ (m : ℕ). some m) e
counted from (suc n) (suc k) h = let e : suc from + k ≡ from + suc k = omega arith in counted (suc from) n k (omega arith) ∙ ap (λ (m : ℕ). some m) e

pub counts : (from n : ℕ) → length (counting from n) ≡ n
counts from zero = refl
counts from (suc n) = let h = counts (suc from) n in omega arith
