use Rattle.std.proofs.Common.{◌≡◌, ℕ, ◌≤◌, List, ◌++◌, length, drop}
use Rattle.std.specs.Fmt.{decimal}
use Rattle.immrun_core.proofs.digits.write_digits.Given as goal

-- the digits of what is left, and then those that are written, are the number's
pub record Writing (number left start : ℕ) (bytes : List ℕ) : Type 0 where
  pub room : length (decimal left) ≤ start
  pub within : start ≤ 10
  pub whole : length bytes ≡ 10
  pub text : decimal left ++ drop start bytes ≡ decimal number

abbrev pub invariant-digits : goal.invariant-digits
invariant-digits l = Writing l.number l.left l.start l.into

abbrev pub decreases-digits : goal.decreases-digits
decreases-digits l = l.left
