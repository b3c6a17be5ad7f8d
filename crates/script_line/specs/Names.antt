-- Words that stand for names.
use Rattle.std.specs.Prelude.{ℕ, List, [], ◌∷◌, length, Bool, false, ◌&&◌, ◌||◌, nat_le, Result, Ok, Err, if◌then◌else◌}
use Rattle.std.specs.List.{list_all}
use Rattle.std.specs.Char.{is_ascii_digit}
use Rattle.script_line.specs.declared.codes.Code.{Code}
use Rattle.script_line.specs.declared.codes.Code.TheVariants as codes

abbrev pub is_capital : ℕ → Bool
is_capital b = nat_le 65 b && nat_le b 90

abbrev pub is_small : ℕ → Bool
is_small b = nat_le 97 b && nat_le b 122

-- a letter, and at most seven letters and digits
abbrev pub is_name : (ℕ → Bool) → List ℕ → Bool
is_name is_letter [] = false
is_name is_letter (b ∷ bs) =
    is_letter b && nat_le (length bs) 7 && list_all (λ c. is_letter c || is_ascii_digit c) bs

abbrev pub name : (ℕ → Bool) → List ℕ → Result (List ℕ) Code
name is_letter word = if is_name is_letter word then Ok word else Err codes.Name

-- cells have names of capital letters, and local collections of small ones
abbrev pub cell_name : List ℕ → Result (List ℕ) Code
cell_name = name is_capital

abbrev pub local_name : List ℕ → Result (List ℕ) Code
local_name = name is_small
