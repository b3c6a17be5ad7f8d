-- Words that are numbers, each in its one form.
use Rattle.std.specs.Prelude.{ℕ, ◌^◌, List, [], ◌∷◌, Bool, false, not, ◌&&◌, nat_lt, nat_le, ◌==◌, Option, Some, None, if◌then◌else◌, ℤ, pos, neg_ℤ}
use Rattle.std.specs.Char.{is_ascii_digit}
use Rattle.std.specs.List.{list_all}
use Rattle.std.specs.Str.Parse.{digits_value}

-- a digit, or digits without a leading zero
abbrev pub is_numeral : List ℕ → Bool
is_numeral [] = false
is_numeral (d ∷ []) = list_all is_ascii_digit (d ∷ [])
is_numeral (d ∷ e ∷ ds) = list_all is_ascii_digit (d ∷ e ∷ ds) && not (d == 48)

-- the number that a numeral of at most 64 bits writes
abbrev pub magnitude_of : List ℕ → Option ℕ
magnitude_of word = if is_numeral word && nat_lt (digits_value 10 word) (2 ^ 64) then Some (digits_value 10 word) else None

abbrev pub positive_from : Option ℕ → Option ℤ
positive_from None = None
positive_from (Some n) = if nat_lt n (2 ^ 63) then Some (pos n) else None

abbrev pub negative_from : Option ℕ → Option ℤ
negative_from None = None
negative_from (Some n) = if nat_lt 0 n && nat_le n (2 ^ 63) then Some (neg_ℤ (pos n)) else None

-- A signed number of 64 bits, with a minus sign where it is below 0.
abbrev pub integer_of : List ℕ → Option ℤ
integer_of [] = None
integer_of (b ∷ bs) = if b == 45 then negative_from (magnitude_of bs) else positive_from (magnitude_of (b ∷ bs))

abbrev pub number_from : Option ℕ → Option ℕ
number_from None = None
number_from (Some n) = if nat_lt n (2 ^ 32) then Some n else None

-- A number of 32 bits.
abbrev pub number_of : List ℕ → Option ℕ
number_of word = number_from (magnitude_of word)
