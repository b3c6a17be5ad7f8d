-- No more numbers have names of their own than there are names.
use Rattle.std.proofs.Common.{◌≡◌, ◌≢◌, ℕ, zero, suc, ◌<◌, ◌≤◌, refl, sym, ◌∙◌, ◌⊎◌, inl, inr, arith}
use mathlib.Core.Logic.{dite}
use native.Mathlib.Decide.{ℕ_discrete}

-- each of the first n has one of the first m names
abbrev pub AreNamed : (ℕ → ℕ) → ℕ → ℕ → Type 0
AreNamed f n m = (i : ℕ) → i < n → f i < m

-- no two of them have the same
abbrev pub NamesDiffer : (ℕ → ℕ) → ℕ → Type 0
NamesDiffer f n = (i j : ℕ) → i < n → j < n → f i ≡ f j → i ≡ j

-- whoever has the name m gets that of n
abbrev renamed : (ℕ → ℕ) → ℕ → ℕ → ℕ → ℕ
renamed f n m i = dite (ℕ_discrete (f i) m) (λ _. f n) (λ _. f i)

renamed_is : (f : ℕ → ℕ) (n m i : ℕ) → ((f i ≡ m) × (renamed f n m i ≡ f n)) ⊎ ((f i ≢ m) × (renamed f n m i ≡ f i))
renamed_is f n m i = by_name (ℕ_discrete (f i) m)
  where
    by_name : (d : Dec (f i ≡ m)) → ((f i ≡ m) × (dite d (λ _. f n) (λ _. f i) ≡ f n)) ⊎ ((f i ≢ m) × (dite d (λ _. f n) (λ _. f i) ≡ f i))
    by_name (yes h) = inl (h, refl)
    by_name (no h) = inr (h, refl)

named_less : (f : ℕ → ℕ) (n m : ℕ) → AreNamed f (suc n) (suc m) → NamesDiffer f (suc n) → AreNamed (renamed f n m) n m
named_less f n m named differ i near =
    let a = named i (omega arith) in let b = named n (omega arith) in
    let other : f i ≡ f n → ⊥ = λ e. let z = differ i n (omega arith) (omega arith) e in omega arith in
    elim (renamed_is f n m i) [ inl w ↦ omega (arith, w.0, w.1) | inr w ↦ omega (arith, w.0, w.1) ]

differ_less : (f : ℕ → ℕ) (n m : ℕ) → NamesDiffer f (suc n) → NamesDiffer (renamed f n m) n
differ_less f n m differ i j near near' e = elim (renamed_is f n m i) [
  | inl v ↦ elim (renamed_is f n m j) [
    | inl w ↦ differ i j (omega arith) (omega arith) (v.0 ∙ sym w.0)
    | inr w ↦ let z = differ n j (omega arith) (omega arith) (sym v.1 ∙ e ∙ w.1) in absurd (omega arith)
  ]
  | inr v ↦ elim (renamed_is f n m j) [
    | inl w ↦ let z = differ i n (omega arith) (omega arith) (sym v.1 ∙ e ∙ w.1) in absurd (omega arith)
    | inr w ↦ differ i j (omega arith) (omega arith) (sym v.1 ∙ e ∙ w.1)
  ]
]

pub pigeonhole : (n m : ℕ) (f : ℕ → ℕ) → AreNamed f n m → NamesDiffer f n → n ≤ m
pigeonhole zero m f named differ = omega arith
pigeonhole (suc n) zero f named differ = absurd (omega (arith, named n (omega arith)))
pigeonhole (suc n) (suc m) f named differ = omega (arith, pigeonhole n m (renamed f n m) (named_less f n m named differ) (differ_less f n m differ))
