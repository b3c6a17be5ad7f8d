-- What contracts see of a bucket.
use Rattle.std.specs.Prelude.{ℤ, List, refl}
use Rattle.std.specs.Coded.{Coded, code_by, coded×, coded_list, coded_ℤ}

-- elements, and the hash of each
pub record Bucketed (T : Type 0) : Type 0 where
  pub hash : ℤ
  pub items : List T

-- it is stored as the pair of its fields
abbrev pub bucketed_code : {T : Type 0} → Coded T → Coded (Bucketed T)
bucketed_code {T} code =
    code_by (ℤ × List T) (coded× coded_ℤ (coded_list code)) (λ b. (b.hash, b.items)) (λ p. record { hash = p.0; items = p.1 }) (λ _. refl)
