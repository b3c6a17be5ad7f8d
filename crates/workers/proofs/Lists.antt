-- Lists by their places.
use Rattle.std.proofs.Common.{◌≡◌, ℕ, zero, suc, ◌<◌, List, [], ◌∷◌, length, get_or, Some, refl, ap, sym, ◌∙◌, arith}
use Rattle.std.specs.Prelude.{map, slice_get}
use Rattle.std.specs.List.{AllByRecursion}
use mathlib.Core.Option.{some, some-injective, some-ne-none}
use lib.ListN.{get_elem?}

pub length_map : {A B : Type 0} (f : A → B) (xs : List A) → length (map f xs) ≡ length xs
length_map f [] = refl
length_map f (x ∷ xs) = ap suc (length_map f xs)

pub index_map : {A B : Type 0} (f : A → B) (xs : List A) (i : ℕ) (d : A) (e : B) → i < length xs → get_or (map f xs) i e ≡ f (get_or xs i d)
index_map f [] i d e lt = absurd (omega arith)
index_map f (x ∷ xs) zero d e lt = refl
index_map f (x ∷ xs) (suc i) d e lt = index_map f xs i d e (omega arith)

-- the element at a place, as an option
pub get_there : {A : Type 0} (xs : List A) (i : ℕ) (d : A) → i < length xs → slice_get xs i ≡ Some (get_or xs i d)
get_there [] i d lt = absurd (omega arith)
get_there (x ∷ xs) zero d lt = refl
get_there (x ∷ xs) (suc i) d lt = get_there xs i d (omega arith)

pub elem_there : {A : Type 0} (xs : List A) (i : ℕ) (d : A) → i < length xs → get_elem? xs i ≡ some (get_or xs i d)
elem_there [] i d lt = absurd (omega arith)
elem_there (x ∷ xs) zero d lt = refl
elem_there (x ∷ xs) (suc i) d lt = elem_there xs i d (omega arith)

-- there is an element at a place
pub some_there : {A : Type 0} (xs : List A) (i : ℕ) → i < length xs → (x : A) × (get_elem? xs i ≡ some x)
some_there [] i lt = absurd (omega arith)
some_there (x ∷ xs) zero lt = (x, refl)
some_there (x ∷ xs) (suc i) lt = some_there xs i (omega arith)

-- where a place has an element, it is that of the place, and there is such a place
pub elem_is : {A : Type 0} (xs : List A) (i : ℕ) (x d : A) → get_elem? xs i ≡ some x → (i < length xs) × (x ≡ get_or xs i d)
elem_is [] i x d e = absurd (some-ne-none x (sym e))
elem_is (y ∷ ys) zero x d e = (omega arith, sym (some-injective y x e))
elem_is (y ∷ ys) (suc i) x d e = let h = elem_is ys i x d e in (omega (arith, h.0), h.1)

-- there is an element at a place, which is its own default
pub one_there : {A : Type 0} (xs : List A) (i : ℕ) → i < length xs → (x : A) × (get_or xs i x ≡ x)
one_there [] i lt = absurd (omega arith)
one_there (x ∷ xs) zero lt = (x, refl)
one_there (x ∷ xs) (suc i) lt = one_there xs i (omega arith)

pub all_by_index : {A : Type 0} (P : A → Type 0) (xs : List A) → ((k : ℕ) (d : A) → k < length xs → P (get_or xs k d)) → AllByRecursion P xs
all_by_index P [] h = tt
all_by_index P (x ∷ xs) h = (h 0 x (omega arith), all_by_index P xs (λ k d lt. h (suc k) d (omega arith)))

pub all_there : {A : Type 0} (P : A → Type 0) (xs : List A) → ((i : ℕ) (x : A) → get_elem? xs i ≡ some x → P x) → AllByRecursion P xs
all_there P [] h = tt
all_there P (x ∷ xs) h = (h 0 x refl, all_there P xs (λ i y e. h (suc i) y e))

-- what holds of each, and more, holds of each
pub all_weaker : {A : Type 0} {P Q : A → Type 0} → ((x : A) → P x → Q x) → (xs : List A) → AllByRecursion P xs → AllByRecursion Q xs
all_weaker f [] all = tt
all_weaker f (x ∷ xs) all = (f x all.0, all_weaker f xs all.1)

-- lists of one length that agree at each place
pub same_lists : {A : Type 0} (xs ys : List A) → length xs ≡ length ys → ((k : ℕ) (d : A) → k < length xs → get_or xs k d ≡ get_or ys k d) → xs ≡ ys
same_lists [] [] e h = refl
same_lists [] (y ∷ ys) e h = absurd (omega (arith, e))
same_lists (x ∷ xs) [] e h = absurd (omega (arith, e))
same_lists (x ∷ xs) (y ∷ ys) e h = ap (λ z. z ∷ xs) (h 0 x (omega arith)) ∙ ap (λ zs. y ∷ zs) (same_lists xs ys (omega (arith, e)) (λ k d lt. h (suc k) d (omega arith)))
