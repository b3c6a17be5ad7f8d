-- Tables, row by row and column by column.
use Rattle.std.proofs.Common.{◌≡◌, ℕ, ◌<◌, List, [], ◌∷◌, ◌++◌, length, get_or, Some, refl, ap, sym, subst, ◌∙◌, arith, append-nil}
use Rattle.std.proofs.lemmas.List.{map-append}
use Rattle.std.specs.Prelude.{Option, map, slice_get, unwrap_or}
use Rattle.std.specs.List.{AllByRecursion}
use Rattle.workers.specs.Tables.{AreColumnsOf, entries_at}
use Rattle.workers.proofs.Lists.{get_there, index_map, length_map, one_there}

-- one row more
entries_snoc : {A B : Type 0} (f : B → List A) (c : ℕ) (rows : List B) (row : B) → entries_at c (map f (rows ++ row ∷ [])) ≡ entries_at c (map f rows) ++ slice_get (f row) c ∷ []
entries_snoc f c [] row = refl
entries_snoc f c (r ∷ rows) row = ap (λ xs. slice_get (f r) c ∷ xs) (entries_snoc f c rows row)

-- a column that is longer by what stands in the row
pub column_snoc : {A B : Type 0} (f : B → List A) (c : ℕ) (rows : List B) (row : B) (old new : List A) → c < length (f row) → ((x : A) → new ≡ old ++ get_or (f row) c x ∷ [])
    → map (λ x. Some x) old ≡ entries_at c (map f rows) → map (λ x. Some x) new ≡ entries_at c (map f (rows ++ row ∷ []))
column_snoc {A} f c rows row old new low is e =
    let x : A = (one_there (f row) c low).0 in
    ap (map (λ x. Some x)) (is x) ∙ (map-append (λ x. Some x) old (get_or (f row) c x ∷ [])
    ∙ (ap (λ xs. xs ++ Some (get_or (f row) c x) ∷ []) e ∙ (ap (λ y. entries_at c (map f rows) ++ y ∷ []) (sym (get_there (f row) c x low)) ∙ sym (entries_snoc f c rows row))))

pub columns_are : {A B : Type 0} (f : B → List A) (width : ℕ) (rows : List (List A)) (columns : List B) → length columns ≡ width
    → ((c : ℕ) (d : B) → c < width → map (λ x. Some x) (f (get_or columns c d)) ≡ entries_at c rows) → AreColumnsOf width rows (map f columns)
columns_are {A} {B} f width rows columns many each = record {
  many = length_map f columns ∙ many;
  each = λ c d lt. let low : c < length columns = omega (arith, many) in let b : B = (one_there columns c low).0 in
      ap (map (λ x. Some x)) (index_map f columns c b d low) ∙ each c b lt;
}

-- what is yielded when nothing is left
pub all_yielded : {A : Type 0} (xs left all : List A) → length left ≡ 0 → xs ++ left ≡ all → xs ≡ all
all_yielded xs [] all none e = sym (append-nil xs) ∙ e
all_yielded xs (y ∷ ys) all none e = absurd (omega (arith, none))

-- ---- what a column is

the_some : {A : Type 0} (xs ys : List A) → map (λ x. Some x) xs ≡ map (λ x. Some x) ys → xs ≡ ys
the_some [] [] e = refl
the_some [] (y ∷ ys) e = cc
the_some (x ∷ xs) [] e = cc
the_some (x ∷ xs) (y ∷ ys) e = ap (λ z. z ∷ xs) (ap (first_or x) e) ∙ ap (λ zs. y ∷ zs) (the_some xs ys (ap rest e))
  where
    first_or : {A : Type 0} → A → List (Option A) → A
    first_or d [] = d
    first_or d (o ∷ os) = unwrap_or o d

    rest : {A : Type 0} → List (Option A) → List (Option A)
    rest [] = []
    rest (o ∷ os) = os

at_places : {A B : Type 0} (f : B → List A) (g : B → A) (c : ℕ) (bs : List B) → AllByRecursion (λ b. slice_get (f b) c ≡ Some (g b)) bs → entries_at c (map f bs) ≡ map (λ x. Some x) (map g bs)
at_places f g c [] all = refl
at_places f g c (b ∷ bs) all = ap (λ o. o ∷ entries_at c (map f bs)) all.0 ∙ ap (λ os. Some (g b) ∷ os) (at_places f g c bs all.1)

-- where it is known what stands at a place of each row, the column is that
pub column_is : {A B : Type 0} (f : B → List A) (g : B → A) (c : ℕ) (bs : List B) (column : List A) → AllByRecursion (λ b. slice_get (f b) c ≡ Some (g b)) bs
    → map (λ x. Some x) column ≡ entries_at c (map f bs) → column ≡ map g bs
column_is f g c bs column all e = the_some column (map g bs) (e ∙ at_places f g c bs all)

-- what holds of each holds of the one that comes next
pub next_has : {A B : Type 0} (P : A → Type 0) (f : B → A) (xs : List B) (y : B) (ys all : List B) → xs ++ y ∷ ys ≡ all → AllByRecursion P (map f all) → P (f y)
next_has {B = B} P f [] y ys all e h = let its : AllByRecursion P (map f (y ∷ ys)) = subst (λ (l : List B). AllByRecursion P (map f l)) (sym e) h in its.0
next_has {B = B} P f (x ∷ xs) y ys all e h = let its : AllByRecursion P (map f (x ∷ xs ++ y ∷ ys)) = subst (λ (l : List B). AllByRecursion P (map f l)) (sym e) h in next_has P f xs y ys (xs ++ y ∷ ys) refl its.1
