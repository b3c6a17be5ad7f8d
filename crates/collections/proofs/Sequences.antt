-- The integers of a sequence, one more at a time.
use Rattle.std.proofs.Common.{◌≡◌, ℕ, zero, suc, ◌+◌, [], ◌∷◌, ◌++◌, refl, ap, sym, ◌∙◌, arith, add-one}
use Rattle.std.specs.Prelude.{ℤ, pos, ◌+ℤ◌, map}
use Rattle.std.proofs.Math.IntN.{+ℤ_assoc, +ℤ_idr}
use Rattle.imm_base.specs.declared.val.Val.{Val}
use Rattle.imm_base.specs.declared.val.Val.TheVariants.{Int}
use Rattle.plain_model.specs.Plain.{integers_from}

-- the integer behind so many others
behind : (first : ℤ) (n : ℕ) → first +ℤ pos 1 +ℤ pos n ≡ first +ℤ pos (suc n)
behind first n = +ℤ_assoc first (pos 1) (pos n) ∙ ap (λ k. first +ℤ pos k) (omega arith)

more_suc : (first : ℤ) (n : ℕ) → map Int (integers_from first (suc n)) ≡ map Int (integers_from first n) ++ Int (first +ℤ pos n) ∷ []
more_suc first zero = ap (λ z. Int z ∷ []) (sym (+ℤ_idr first))
more_suc first (suc n) =
    ap (λ vs. Int first ∷ vs) (more_suc (first +ℤ pos 1) n ∙ ap (λ z. map Int (integers_from (first +ℤ pos 1) n) ++ Int z ∷ []) (behind first n))

pub integers_more : (first : ℤ) (n : ℕ) → map Int (integers_from first (n + 1)) ≡ map Int (integers_from first n) ++ Int (first +ℤ pos n) ∷ []
integers_more first n = rw add-one (more_suc first n)

-- each integer with itself
pub pairs_of_integers : (first : ℤ) (n : ℕ) → map {B = Val × Val} (λ v. (v, v)) (map Int (integers_from first n)) ≡ map {B = Val × Val} (λ z. (Int z, Int z)) (integers_from first n)
pairs_of_integers first zero = refl
pairs_of_integers first (suc n) = ap (λ ps. (Int first, Int first) ∷ ps) (pairs_of_integers (first +ℤ pos 1) n)
