-- Words of another number than two.
use Rattle.std.proofs.Common.{◌≡◌, ◌<◌, ℕ, List, [], ◌∷◌, length, Result, Err, refl, arith}
use Rattle.std.specs.Borrow.{Bor}
use Rattle.script_line.specs.declared.codes.Code.{Code}
use Rattle.script_line.specs.declared.codes.Code.TheVariants.{Word}
use Rattle.script_line.specs.Words.{bytes_of}
use Rattle.script_line.specs.Arguments.{two}

pub two_of_others : {A B : Type 0} (first : List ℕ → Result A Code) (second : List ℕ → Result B Code) (ws : List (Bor (List ℕ))) → (length ws ≡ 2 → ⊥)
    → Err Word ≡ two first second (bytes_of ws)
two_of_others first second [] differs = refl
two_of_others first second (u ∷ []) differs = refl
two_of_others first second (u ∷ v ∷ []) differs = absurd (differs (omega arith))
two_of_others first second (u ∷ v ∷ w ∷ ws) differs = refl
