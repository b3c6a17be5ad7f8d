-- What contracts see of a tree of buckets.
use Rattle.std.specs.Prelude.{List, refl}
use Rattle.std.specs.Coded.{Coded, code_by, coded×, coded_list}

-- the elements, and the equality that says which are same
pub record Hashed (T H : Type 0) : Type 0 where
  pub eq : H
  pub items : List T

-- it is stored as the pair of its fields
abbrev pub hashed_code : {T H : Type 0} → Coded T → Coded H → Coded (Hashed T H)
hashed_code {T} {H} code eq_code =
    code_by (H × List T) (coded× eq_code (coded_list code)) (λ s. (s.eq, s.items)) (λ p. record { eq = p.0; items = p.1 }) (λ _. refl)
