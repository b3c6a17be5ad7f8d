-- Numbers that are written are read again.
use Rattle.std.proofs.Common.{◌≡◌, ℕ, zero, suc, ◌^◌, ◌<◌, ◌≤◌, Bool, true, false, ◌&&◌, cond, ltb, leb, List, [], ◌∷◌, length, get_or, Option, Some, None, refl, subst, ◌∙◌, inl, inr, arith}
use Rattle.std.specs.Prelude.{ℤ, pos, negsuc, neg_ℤ, ◌==◌}
use Rattle.std.specs.List.{list_all}
use Rattle.std.specs.Char.{is_ascii_digit}
use Rattle.std.specs.Fmt.{decimal, signed_decimal}
use Rattle.std.proofs.lemmas.Bool.{and_parts, lt-ltb, le-leb, cases_eq, ne_eqb, ltb-true, leb-true}
use Rattle.std.proofs.lemmas.Bool.Decides.{nat_tests}
use Rattle.std.proofs.lemmas.Fmt.{digits_decimal, digits_value-decimal, decimal_nonempty, first_decimal, decimal_digit}
use Rattle.script_line.specs.Numerals.{is_numeral, magnitude_of, positive_from, negative_from, integer_of, number_from, number_of}
use Rattle.script_line.proofs.Digits.{own}

-- an integer of 64 bits
abbrev pub IsInteger : ℤ → Type 0
IsInteger (pos n) = n < 2 ^ 63
IsInteger (negsuc n) = n < 2 ^ 63

is_numeral-from : (ds : List ℕ) → list_all is_ascii_digit ds ≡ true → 0 < length ds → (1 < length ds → 48 < get_or ds 0 0) → is_numeral ds ≡ true
is_numeral-from [] e long first = absurd (omega arith)
is_numeral-from (d ∷ []) e long first = e
is_numeral-from (d ∷ c ∷ ds) e long first =
    let above : 48 < d = first (omega arith) in
    rw (e, ne_eqb d 48 (λ same. omega (arith, above, same))) refl

is_numeral-decimal : (n : ℕ) → n < 2 ^ 64 → is_numeral (decimal n) ≡ true
is_numeral-decimal n lt =
    elim (cases_eq n 0) [
      | inl nothing ↦ rw (nothing, decimal_digit 0 (omega arith)) refl
      | inr some ↦ is_numeral-from (decimal n) (digits_decimal own n lt) (decimal_nonempty n lt) (λ h. first_decimal n (omega arith) lt)
    ]

magnitude_of-decimal : (n : ℕ) → n < 2 ^ 64 → magnitude_of (decimal n) ≡ Some n
magnitude_of-decimal n lt = rw (is_numeral-decimal n lt, digits_value-decimal own n lt, lt-ltb n (2 ^ 64) lt) refl

pub number_of-decimal : (n : ℕ) → n < 2 ^ 32 → number_of (decimal n) ≡ Some n
number_of-decimal n lt = rw (magnitude_of-decimal n (omega arith), lt-ltb n (2 ^ 32) lt) refl

digit_is : (d : ℕ) → is_ascii_digit d ≡ true → (48 ≤ d) × (d ≤ 57)
digit_is d e = grind (arith, nat_tests)

integer_of-digits : (ds : List ℕ) → list_all is_ascii_digit ds ≡ true → 0 < length ds → integer_of ds ≡ positive_from (magnitude_of ds)
integer_of-digits [] e long = absurd (omega arith)
integer_of-digits (d ∷ ds) e long =
    let range = digit_is d (and_parts (is_ascii_digit d) (list_all is_ascii_digit ds) e).0 in
    rw (ne_eqb d 45 (λ same. omega (arith, range, same))) refl

integer_of-positive : (n : ℕ) → n < 2 ^ 63 → integer_of (decimal n) ≡ Some (pos n)
integer_of-positive n lt =
    integer_of-digits (decimal n) (digits_decimal own n (omega arith)) (decimal_nonempty n (omega arith)) ∙ rw (magnitude_of-decimal n (omega arith), lt-ltb n (2 ^ 63) lt) refl

integer_of-negative : (n : ℕ) → n < 2 ^ 63 → integer_of (45 ∷ decimal (suc n)) ≡ Some (negsuc n)
integer_of-negative n lt = rw (magnitude_of-decimal (suc n) (omega arith), lt-ltb 0 (suc n) (omega arith), le-leb (suc n) (2 ^ 63) (omega arith)) refl

pub integer_of-decimal : (z : ℤ) → IsInteger z → integer_of (signed_decimal z) ≡ Some z
integer_of-decimal (pos n) fits = integer_of-positive n fits
integer_of-decimal (negsuc n) fits = integer_of-negative n fits

-- ---- what is read is in range

positive-fits : (o : Option ℕ) (z : ℤ) → positive_from o ≡ Some z → IsInteger z
positive-fits None z e = absurd cc
positive-fits (Some n) z e = by_test (ltb n (2 ^ 63)) refl e
  where
    by_test : (t : Bool) → ltb n (2 ^ 63) ≡ t → cond t (Some (pos n)) None ≡ Some z → IsInteger z
    by_test true lt is = let same : pos n ≡ z = cc in subst IsInteger same (ltb-true n (2 ^ 63) lt)
    by_test false lt is = absurd cc

negative-fits : (o : Option ℕ) (z : ℤ) → negative_from o ≡ Some z → IsInteger z
negative-fits None z e = absurd cc
negative-fits (Some n) z e = by_test (ltb 0 n && leb n (2 ^ 63)) refl e
  where
    below : (n : ℕ) → 0 < n → n ≤ 2 ^ 63 → IsInteger (neg_ℤ (pos n))
    below zero some le = absurd (omega arith)
    below (suc n) some le = omega arith

    by_test : (t : Bool) → (ltb 0 n && leb n (2 ^ 63)) ≡ t → cond t (Some (neg_ℤ (pos n))) None ≡ Some z → IsInteger z
    by_test true in_range is =
        let p = and_parts (ltb 0 n) (leb n (2 ^ 63)) in_range in
        let same : neg_ℤ (pos n) ≡ z = cc in
        subst IsInteger same (below n (ltb-true 0 n p.0) (leb-true n (2 ^ 63) p.1))
    by_test false in_range is = absurd cc

pub integer-fits : (word : List ℕ) (z : ℤ) → integer_of word ≡ Some z → IsInteger z
integer-fits [] z e = absurd cc
integer-fits (b ∷ bs) z e = by_test (b == 45) e
  where
    by_test : (t : Bool) → cond t (negative_from (magnitude_of bs)) (positive_from (magnitude_of (b ∷ bs))) ≡ Some z → IsInteger z
    by_test true is = negative-fits (magnitude_of bs) z is
    by_test false is = positive-fits (magnitude_of (b ∷ bs)) z is

number_from-fits : (o : Option ℕ) (n : ℕ) → number_from o ≡ Some n → n < 2 ^ 32
number_from-fits None n e = absurd cc
number_from-fits (Some m) n e = by_test (ltb m (2 ^ 32)) refl e
  where
    by_test : (t : Bool) → ltb m (2 ^ 32) ≡ t → cond t (Some m) None ≡ Some n → n < 2 ^ 32
    by_test true lt is = let same : m ≡ n = cc in subst (λ (k : ℕ). k < 2 ^ 32) same (ltb-true m (2 ^ 32) lt)
    by_test false lt is = absurd cc

pub number-fits : (word : List ℕ) (n : ℕ) → number_of word ≡ Some n → n < 2 ^ 32
number-fits word n e = number_from-fits (magnitude_of word) n e
