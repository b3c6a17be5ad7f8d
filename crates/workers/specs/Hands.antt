-- Passes with what was noted by them.
use Rattle.std.specs.Prelude.{List, [], ◌∷◌}
use Rattle.plain_model.specs.declared.history.Line.{Line}
use Rattle.interlocked.specs.Known.{Known}

-- passes, and a log for each: those of one worker, cell by cell, or those of one cell, worker by worker
pub record Handed : Type 0 where
  pub passes : List Known
  pub logs : List (List Line)

abbrev pub no_hand : Handed
no_hand = record { passes = []; logs = [] }

-- passes and logs, each time those at one place
abbrev pub columns_of : List (List Known) → List (List (List Line)) → List Handed
columns_of (p ∷ ps) (l ∷ ls) = record { passes = p; logs = l } ∷ columns_of ps ls
columns_of ps ls = []
