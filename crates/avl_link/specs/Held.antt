-- What contracts see of a link.
use Rattle.std.specs.Prelude.{◌≡◌, ℕ, Bool, List, refl}
use Rattle.std.specs.Coded.{Coded, code_by, coded×, coded_list, coded_ℕ, coded_bool}

-- the list and the height; whether the root is owned, and whether its higher side is owned as well
pub record Held (T : Type 0) : Type 0 where
  pub items : List T
  pub height : ℕ
  pub is_owned : Bool
  pub is_ready : Bool

-- it is stored as the pairs of its fields
abbrev pub held_code : {T : Type 0} → Coded T → Coded (Held T)
held_code {T} code =
    code_by ((List T × ℕ) × (Bool
    × Bool)) (coded× (coded× (coded_list code) coded_ℕ) (coded× coded_bool coded_bool))
    (λ h. ((h.items, h.height), (h.is_owned, h.is_ready)))
    (λ p. record { items = p.0.0; height = p.0.1; is_owned = p.1.0; is_ready = p.1.1 })
    (λ _. refl)
