-- Numerals, and what `parse` reads.
use Rattle.std.proofs.Common.{◌≡◌, ℕ, ◌^◌, ◌<◌, true, ◌&&◌, cond, ltb, List, [], ◌∷◌, length, Result, Ok, Err, Some, None, refl, ap, inl, inr, arith, rules}
use Rattle.std.specs.List.{list_all}
use Rattle.std.specs.Char.{is_ascii_digit}
use Rattle.std.specs.Result.{result_ok, OkIff}
use Rattle.std.specs.Str.{IsUtf8}
use Rattle.std.specs.Str.Parse.{digits_value, ParsesUnsigned}
use Rattle.std.proofs.lemmas.Bool.{and_parts, lt-ltb, le-ltb, cases_lt}
use Rattle.std.proofs.lemmas.Fmt.{IsAscii-from_digits}
use Rattle.std.proofs.lemmas.Str.{IsUtf8-from_ascii}
use Rattle.std.proofs.lemmas.Str.Parse.{IsNumeralModel, numerals_by_value, parse_digits}
use Rattle.script_line.specs.Numerals.{is_numeral}

pub own : IsNumeralModel (λ ds. list_all is_ascii_digit ds ≡ true) (digits_value 10)
own = numerals_by_value _ (search rules)

pub digits_of_numeral : (word : List ℕ) → is_numeral word ≡ true → (list_all is_ascii_digit word ≡ true) × (0 < length word)
digits_of_numeral [] e = absurd cc
digits_of_numeral (d ∷ []) e = (e, omega arith)
digits_of_numeral (d ∷ c ∷ ds) e = ((and_parts _ _ e).0, omega arith)

pub IsUtf8-numeral : (word : List ℕ) → is_numeral word ≡ true → IsUtf8 word
IsUtf8-numeral word e = IsUtf8-from_ascii word (IsAscii-from_digits word (own.to word (digits_of_numeral word e).0))

pub parsed : {E : Type 0} (k : ℕ) (word : List ℕ) (r : Result ℕ E) → ParsesUnsigned k 10 word r → is_numeral word ≡ true
    → result_ok r ≡ cond (is_numeral word && ltb (digits_value 10 word) (2 ^ k)) (Some (digits_value 10 word)) None
parsed k word r h e =
    let d = digits_of_numeral word e in
    rw e (by_cases k word r (parse_digits own k word r h d.0) d.1)
  where
    by_cases : {E : Type 0} (k : ℕ) (word : List ℕ) (r : Result ℕ E) → OkIff r ((0 < length word) × (digits_value 10 word < 2 ^ k)) (digits_value 10 word) → 0 < length word
        → result_ok r ≡ cond (ltb (digits_value 10 word) (2 ^ k)) (Some (digits_value 10 word)) None
    by_cases k word (Ok x) h long = rw (lt-ltb _ _ h.0.1) (ap (λ (n : ℕ). Some n) h.1)
    by_cases k word (Err x) h long =
        elim (cases_lt (digits_value 10 word) (2 ^ k)) [
          | inl lt ↦ absurd (h (long, lt))
          | inr le ↦ rw (le-ltb _ _ le) refl
        ]
