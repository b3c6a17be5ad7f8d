-- The numbers of the passes, in their order.
use Rattle.std.proofs.Common.{◌≡◌, ℕ, zero, suc, ◌+◌, ◌-◌, ◌<◌, List, [], ◌∷◌, ◌++◌, map, take, drop, ap, ◌∙◌, sym, subst, arith}
use Rattle.std.specs.Prelude.{All}
use Rattle.std.proofs.lemmas.List.Elements.{All-append, All-take, All-drop}
use mathlib.Core.List.{map-append}
use Rattle.version_slots.specs.Views.{counting}

-- of the numbers that are left to give away, the first is given away
pub counting_step : (number count : ℕ) → number < count → counting (number + 1) (count - number) ≡ (number + 1) ∷ counting (number + 1 + 1) (count - (number + 1))
counting_step number count less = let e : count - number ≡ suc (count - (number + 1)) = omega arith in let f : suc (number + 1) ≡ number + 1 + 1 = omega arith in
    ap (counting (number + 1)) e ∙ ap (λ (m : ℕ). (number + 1) ∷ counting m (count - (number + 1))) f

counting_snoc : (from n : ℕ) → counting from (suc n) ≡ counting from n ++ (from + n) ∷ []
counting_snoc from zero = let e : from ≡ from + 0 = omega arith in ap (λ (m : ℕ). m ∷ []) e
counting_snoc from (suc n) = let e : suc from + n ≡ from + suc n = omega arith in
    ap (λ (l : List ℕ). from ∷ l) (counting_snoc (suc from) n ∙ ap (λ (m : ℕ). counting (suc from) n ++ m ∷ []) e)

-- one more of the things that go by the numbers from 2 on
pub mapped_next : {B C : Type 0} (f : B → C) (g : ℕ → C) (xs : List B) (b : B) (number : ℕ) → 0 < number → map f xs ≡ map g (counting 2 (number - 1)) → f b ≡ g (number + 1)
    → map f (xs ++ b ∷ []) ≡ map g (counting 2 (number + 1 - 1))
mapped_next {C = C} f g xs b number some_number all next = let e : suc (number - 1) ≡ number + 1 - 1 = omega arith in let n : 2 + (number - 1) ≡ number + 1 = omega arith in
    map-append f xs (b ∷ [])
    ∙ ((λ i. all i ++ next i ∷ [])
    ∙ (ap (λ (m : ℕ). map g (counting 2 (number - 1)) ++ g m ∷ []) (sym n)
    ∙ (sym (map-append g (counting 2 (number - 1)) ((2 + (number - 1)) ∷ []))
    ∙ (ap (map g) (sym (counting_snoc 2 (number - 1))) ∙ ap (λ (m : ℕ). map g (counting 2 m)) e))))

pub all_turned : {B : Type 0} (P : B → Type 0) (n : ℕ) (xs ys : List B) → ys ≡ drop n xs ++ take n xs → All P xs → All P ys
all_turned P n xs ys is all = subst (All P) (sym is) (All-append P (drop n xs) (take n xs) (All-drop P n xs all) (All-take P n xs all))
