-- The two ends of a queue.
use Rattle.std.specs.Prelude.{◌≡◌, List, [], ◌++◌, reverse}
use Rattle.imm_base.specs.Kept.{IsShort}

-- together they are not too long, and the front is empty only where both are
pub record AreEnds {T : Type 0} (front back : List T) : Type 0 where
  pub short : IsShort (front ++ reverse back)
  pub none : front ≡ [] → back ≡ []
