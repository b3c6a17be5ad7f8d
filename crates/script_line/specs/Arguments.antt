-- The words that follow a word: how many there are, and what each of them stands for.
use Rattle.std.specs.Prelude.{ℕ, List, [], ◌∷◌, Result, Ok, Err}
use Rattle.script_line.specs.declared.codes.Code.{Code}
use Rattle.script_line.specs.declared.codes.Code.TheVariants.{Word}
use Rattle.script_line.specs.Codes.{◌⊗◌}

abbrev pub no_word : List (List ℕ) → Result (Unit {0}) Code
no_word [] = Ok tt
no_word words = Err Word

abbrev pub one : {A : Type 0} → (List ℕ → Result A Code) → List (List ℕ) → Result A Code
one read (v ∷ []) = read v
one read words = Err Word

abbrev pub two : {A B : Type 0} → (List ℕ → Result A Code) → (List ℕ → Result B Code)
    → List (List ℕ) → Result (A × B) Code
two first second (u ∷ v ∷ []) = first u ⊗ second v
two first second words = Err Word

abbrev pub three : {A B C : Type 0} → (List ℕ → Result A Code) → (List ℕ → Result B Code)
    → (List ℕ → Result C Code) → List (List ℕ) → Result (A × (B × C)) Code
three first second third (u ∷ v ∷ w ∷ []) = first u ⊗ (second v ⊗ third w)
three first second third words = Err Word

-- a word, and then what the words to the end of the line are together
abbrev pub one_and_rest : {A B : Type 0} → (List ℕ → Result A Code) → (List (List ℕ) → Result B Code)
    → List (List ℕ) → Result (A × B) Code
one_and_rest first rest (u ∷ words) = first u ⊗ rest words
one_and_rest first rest [] = Err Word
