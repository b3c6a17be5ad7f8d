-- Judgements that give a value.
use Rattle.std.proofs.Common.{◌≡◌, Bool, true, false, not, cond, Result, Ok, Err, refl, ap}
use Rattle.script_line.specs.declared.codes.Code.{Code}
use Rattle.script_line.specs.Codes.{◌>>=◌, ◌⊗◌}

-- a test that is to hold, or a code
pub guard_ok : {A : Type 0} (b : Bool) (c : Code) (r : Result A Code) (y : A) → cond (not b) (Err c) r ≡ Ok y → (b ≡ true) × (r ≡ Ok y)
guard_ok true c r y e = (refl, e)
guard_ok false c r y e = absurd cc

pub bind_ok : {A B : Type 0} (r : Result A Code) (f : A → Result B Code) (y : B) → (r >>= f) ≡ Ok y → (x : A) × (r ≡ Ok x) × (f x ≡ Ok y)
bind_ok (Ok x) f y e = (x, refl, e)
bind_ok (Err c) f y e = absurd cc

pub both_ok : {A B : Type 0} (r : Result A Code) (s : Result B Code) (p : A × B) → (r ⊗ s) ≡ Ok p → (r ≡ Ok p.0) × (s ≡ Ok p.1)
both_ok {A} {B} (Ok a) (Ok b) p e = let same : (a, b) ≡ p = cc in (ap (λ (q : A × B). Ok q.0) same, ap (λ (q : A × B). Ok q.1) same)
both_ok (Ok a) (Err d) p e = absurd cc
both_ok (Err c) (Ok b) p e = absurd cc
both_ok (Err c) (Err d) p e = absurd cc

abbrev done : {A : Type 0} → A → Result A Code
done x = Ok x

-- what holds of a value holds of an equal one
pub moved : {A : Type 0} (P : A → Type 0) (a b : A) → done a ≡ done b → P a → P b
moved P a b e h = let same : a ≡ b = cc in rw (← same) h

-- what is made of a value that was read
pub made_ok : {A B : Type 0} (P : B → Type 0) (r : Result A Code) (f : A → B) (y : B) → (r >>= λ x. Ok (f x)) ≡ Ok y → ((x : A) → r ≡ Ok x → P (f x)) → P y
made_ok P r f y e h = let b = bind_ok r (λ x. Ok (f x)) y e in moved P (f b.0) y b.2 (h b.0 b.1)
