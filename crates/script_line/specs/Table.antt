-- Tables of words.
use Rattle.std.specs.Prelude.{List, [], ◌∷◌, map, ℕ, Result, Ok, Err, if◌then◌else◌}
use Rattle.std.specs.Borrow.{Bor}
use Rattle.std.specs.Str.{bytes_eq}
use Rattle.script_line.specs.declared.codes.Code.{Code}
use Rattle.script_line.specs.declared.codes.Code.TheVariants as codes

-- What stands beside a word in a table. A word that stands in none is no word of the language.
abbrev pub entry : {A : Type 0} → List (List ℕ × A) → List ℕ → Result A Code
entry [] word = Err codes.Word
entry (row ∷ rows) word = if bytes_eq word row.0 then Ok row.1 else entry rows word

-- the rows of a table of the code
abbrev pub rows_of : {A : Type 0} → List (Bor (List ℕ) × A) → List (List ℕ × A)
rows_of rows = map (λ row. (row.0.now, row.1)) rows
