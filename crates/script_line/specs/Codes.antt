-- Judgements: a value, or the least code that applies.
use Rattle.std.specs.Prelude.{ℕ, nat_le, Bool, true, false, Option, Some, None, Result, Ok, Err, if◌then◌else◌}
use Rattle.script_line.specs.declared.codes.Code.{Code}
use Rattle.script_line.specs.declared.codes.Code.TheVariants as codes

-- the code's number
abbrev pub rank : Code → ℕ
rank codes.Header = 1
rank codes.Word = 2
rank codes.Value = 3
rank codes.Name = 4
rank codes.Kind = 5
rank codes.Structure = 6
rank codes.Limit = 7

abbrev pub lesser : Code → Code → Code
lesser c d = if nat_le (rank c) (rank d) then c else d

-- One judgement, and then one that needs its value.
infixl 10 ◌>>=◌
abbrev pub ◌>>=◌ : {A B E : Type 0} → Result A E → (A → Result B E) → Result B E
(Ok x) >>= f = f x
(Err e) >>= f = Err e

-- Two things are judged apart, and the lesser code counts.
infixl 20 ◌⊗◌
abbrev pub ◌⊗◌ : {A B : Type 0} → Result A Code → Result B Code → Result (A × B) Code
(Ok a) ⊗ (Ok b) = Ok (a, b)
(Ok a) ⊗ (Err d) = Err d
(Err c) ⊗ (Ok b) = Err c
(Err c) ⊗ (Err d) = Err (lesser c d)

abbrev pub some_or : {A : Type 0} → Code → Option A → Result A Code
some_or c None = Err c
some_or c (Some a) = Ok a
