-- What weaving keeps.
use Rattle.std.proofs.Common.{◌≡◌, ℕ, ◌+◌, ◌<◌, ◌≢◌, Bool, true, false, if◌then◌else◌, List, [], ◌∷◌, filter, refl, ap, ◌∙◌, arith}
use Rattle.std.specs.List.{AllByRecursion}
use Rattle.plain_model.specs.declared.history.Line.{Line}
use Rattle.history_merge.specs.Lines.{is_below}
use Rattle.history_merge.specs.Logs.{IsRising, weave_in, weave}
use Rattle.history_merge.proofs.Order.{below_trans, below_total}

-- nothing passes where no line does
pub filter_none : (p : Line → Bool) (xs : List Line) → AllByRecursion (λ x. p x ≡ false) xs → filter p xs ≡ []
filter_none p [] none = refl
filter_none p (x ∷ xs) none = rw none.0 (filter_none p xs none.1)

-- what holds of each line of both lists holds of each line
weave_in_all : (P : Line → Type 0) (x : Line) (rest : List Line → List Line) → P x → ((ys : List Line) → AllByRecursion P ys → AllByRecursion P (rest ys))
    → (ys : List Line) → AllByRecursion P ys → AllByRecursion P (weave_in x rest ys)
weave_in_all P x rest px more [] all = (px, more [] all)
weave_in_all P x rest px more (y ∷ ys) all =
    elim (is_below y x) as (λ b. AllByRecursion P (if b then y ∷ weave_in x rest ys else x ∷ rest (y ∷ ys))) [
      | true ↦ (all.0, weave_in_all P x rest px more ys all.1)
      | false ↦ (px, more (y ∷ ys) all)
    ]

pub weave_all : (P : Line → Type 0) (xs : List Line) → AllByRecursion P xs → (ys : List Line) → AllByRecursion P ys → AllByRecursion P (weave xs ys)
weave_all P [] none ys all = all
weave_all P (x ∷ xs) each ys all = weave_in_all P x (weave xs) each.0 (weave_all P xs each.1) ys all

-- a number of each line, added up
abbrev pub total : (Line → ℕ) → List Line → ℕ
total f [] = 0
total f (x ∷ xs) = f x + total f xs

-- a sum over the lines is the sum over both lists
weave_in_total : (f : Line → ℕ) (x : Line) (n : ℕ) (rest : List Line → List Line) → ((ys : List Line) → total f (rest ys) ≡ n + total f ys)
    → (ys : List Line) → total f (weave_in x rest ys) ≡ (f x + n) + total f ys
weave_in_total f x n rest more [] = omega (arith, more [])
weave_in_total f x n rest more (y ∷ ys) =
    let inner = weave_in_total f x n rest more ys in
    elim (is_below y x) as (λ b. total f (if b then y ∷ weave_in x rest ys else x ∷ rest (y ∷ ys)) ≡ (f x + n) + (f y + total f ys)) [
      | true ↦ omega (arith, inner)
      | false ↦ omega (arith, more (y ∷ ys))
    ]

pub weave_total : (f : Line → ℕ) (xs ys : List Line) → total f (weave xs ys) ≡ total f xs + total f ys
weave_total f [] ys = omega arith
weave_total f (x ∷ xs) ys = weave_in_total f x (total f xs) (weave xs) (weave_total f xs) ys

-- where no line of the second list passes a test, what passes is what passes of the first
weave_in_left : (p : Line → Bool) (x : Line) (xs : List Line) (rest : List Line → List Line) → ((ys : List Line) → AllByRecursion (λ y. p y ≡ false) ys → filter p (rest ys) ≡ filter p xs)
    → (ys : List Line) → AllByRecursion (λ y. p y ≡ false) ys → filter p (weave_in x rest ys) ≡ filter p (x ∷ xs)
weave_in_left p x xs rest more [] none = ap (λ zs. if p x then x ∷ zs else zs) (more [] tt)
weave_in_left p x xs rest more (y ∷ ys) none =
    let inner = weave_in_left p x xs rest more ys none.1 in
    let skips : filter p (y ∷ weave_in x rest ys) ≡ filter p (weave_in x rest ys) = rw none.0 refl in
    elim (is_below y x) as (λ b. filter p (if b then y ∷ weave_in x rest ys else x ∷ rest (y ∷ ys)) ≡ filter p (x ∷ xs)) [
      | true ↦ skips ∙ inner
      | false ↦ ap (λ zs. if p x then x ∷ zs else zs) (more (y ∷ ys) none)
    ]

pub weave_left : (p : Line → Bool) (xs ys : List Line) → AllByRecursion (λ y. p y ≡ false) ys → filter p (weave xs ys) ≡ filter p xs
weave_left p [] ys none = filter_none p ys none
weave_left p (x ∷ xs) ys none = weave_in_left p x xs (weave xs) (weave_left p xs) ys none

-- and the other way round
weave_in_right : (p : Line → Bool) (x : Line) (rest : List Line → List Line) → p x ≡ false → ((ys : List Line) → filter p (rest ys) ≡ filter p ys)
    → (ys : List Line) → filter p (weave_in x rest ys) ≡ filter p ys
weave_in_right p x rest fails more [] = rw fails (more [])
weave_in_right p x rest fails more (y ∷ ys) =
    let inner = weave_in_right p x rest fails more ys in
    let skips : filter p (x ∷ rest (y ∷ ys)) ≡ filter p (rest (y ∷ ys)) = rw fails refl in
    elim (is_below y x) as (λ b. filter p (if b then y ∷ weave_in x rest ys else x ∷ rest (y ∷ ys)) ≡ filter p (y ∷ ys)) [
      | true ↦ ap (λ zs. if p y then y ∷ zs else zs) inner
      | false ↦ skips ∙ more (y ∷ ys)
    ]

pub weave_right : (p : Line → Bool) (xs : List Line) → AllByRecursion (λ x. p x ≡ false) xs → (ys : List Line) → filter p (weave xs ys) ≡ filter p ys
weave_right p [] none ys = refl
weave_right p (x ∷ xs) none ys = weave_in_right p x (weave xs) none.0 (weave_right p xs none.1) ys

-- a line below the first of a rising list is below all
below_all : (x y : Line) → is_below x y ≡ true → (ys : List Line) → AllByRecursion (λ z. is_below y z ≡ true) ys → AllByRecursion (λ z. is_below x z ≡ true) ys
below_all x y h [] all = tt
below_all x y h (z ∷ ys) all = (below_trans x y z h all.0, below_all x y h ys all.1)

-- two rising lists with no caller in common give a rising list
weave_in_rising : (k : ℕ) (x : Line) (xs : List Line) → x.caller < k → IsRising (x ∷ xs) → (rest : List Line → List Line)
    → ((P : Line → Type 0) → AllByRecursion P xs → (ys : List Line) → AllByRecursion P ys → AllByRecursion P (rest ys))
    → ((ys : List Line) → AllByRecursion (λ y. y.caller ≡ k) ys → IsRising ys → IsRising (rest ys))
    → (ys : List Line) → AllByRecursion (λ y. y.caller ≡ k) ys → IsRising ys → IsRising (weave_in x rest ys)
weave_in_rising k x xs low up rest all more [] by rises = (all (λ z. is_below x z ≡ true) up.0 [] tt, more [] tt tt)
weave_in_rising k x xs low up rest all more (y ∷ ys) by rises = chosen (is_below y x) refl (weave_in_rising k x xs low up rest all more ys by.1 rises.1)
  where
    chosen : (b : Bool) → is_below y x ≡ b → IsRising (weave_in x rest ys) → IsRising (if b then y ∷ weave_in x rest ys else x ∷ rest (y ∷ ys))
    chosen true is inner = (weave_in_all (λ z. is_below y z ≡ true) x rest is (all (λ z. is_below y z ≡ true) (below_all y x is xs up.0)) ys rises.0, inner)
    chosen false is inner =
        let apart : x.caller ≢ y.caller = omega (arith, by.0) in
        let under : is_below x y ≡ true = below_total x y is apart in
        (all (λ z. is_below x z ≡ true) up.0 (y ∷ ys) (under, below_all x y under ys rises.0), more (y ∷ ys) by rises)

pub weave_rising : (k : ℕ) (xs : List Line) → AllByRecursion (λ x. x.caller < k) xs → IsRising xs → (ys : List Line) → AllByRecursion (λ y. y.caller ≡ k) ys → IsRising ys → IsRising (weave xs ys)
weave_rising k [] low up ys by rises = rises
weave_rising k (x ∷ xs) low up ys by rises = weave_in_rising k x xs low.0 up (weave xs) (λ P each. weave_all P xs each) (weave_rising k xs low.1 up.1) ys by rises
