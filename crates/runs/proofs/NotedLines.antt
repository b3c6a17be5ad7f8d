-- The lines of one cell among all that a worker noted.
use Rattle.std.proofs.Common.{◌≡◌, ℕ, Bool, true, false, eqb, List, [], ◌∷◌, ◌++◌, None, Some, refl, ap}
use Rattle.std.specs.Prelude.{map, if◌then◌else◌}
use Rattle.std.specs.List.{cons_option}
use Rattle.plain_model.specs.History.{Numbered, numbered}
use Rattle.runs.specs.Notes.{Note, notes_at, lines_at}

-- the line of a note, if it is of this cell, stands before those of the others
pub lines_front : (k : ℕ) (n : Note) (ns : List Note) → lines_at k (n ∷ ns) ≡ lines_at k (n ∷ []) ++ lines_at k ns
lines_front k n ns = split (eqb n.place k)
  where
    split : (b : Bool) → cons_option (if b then Some n.line else None) (lines_at k ns) ≡ cons_option (if b then Some n.line else None) [] ++ lines_at k ns
    split true = refl
    split false = refl

-- these are the calls that were noted of it
pub calls_at_lines : (k : ℕ) (ns : List Note) → map numbered (lines_at k ns) ≡ notes_at k ns
calls_at_lines k [] = refl
calls_at_lines k (n ∷ ns) = split (eqb n.place k) (calls_at_lines k ns)
  where
    split : (b : Bool) → map numbered (lines_at k ns) ≡ notes_at k ns
        → map numbered (cons_option (if b then Some n.line else None) (lines_at k ns)) ≡ cons_option (if b then Some (numbered n.line) else None) (notes_at k ns)
    split true e = ap (λ (xs : List Numbered). numbered n.line ∷ xs) e
    split false e = e
