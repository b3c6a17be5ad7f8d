-- A text of one letter.
use Rattle.std.specs.Prelude.{◌≡◌, ℕ, [], ◌∷◌, true}
use Rattle.std.proofs.Common.{refl, arith}
use Rattle.std.proofs.lemmas.Bool.{and_from}
use Rattle.std.proofs.lemmas.List.Sums.{AllPass-from_list_all}
use Rattle.imm_base.specs.Text.{IsText24, is_plain_byte}

pub text_of_letter : (b : ℕ) → is_plain_byte b ≡ true → IsText24 (b ∷ [])
text_of_letter b e = record { short = omega arith; plain = AllPass-from_list_all is_plain_byte (b ∷ []) (and_from (is_plain_byte b) true e refl) }
