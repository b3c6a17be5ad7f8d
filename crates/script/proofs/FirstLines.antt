-- The first line of a text, and the others.
use Rattle.std.proofs.Common.{◌≡◌, ℕ, ◌+◌, ◌<◌, ◌≤◌, Bool, true, false, cond, ltb, Some, None, List, [], ◌∷◌, length, take, drop, refl, ap, ◌∙◌, arith}
use Rattle.std.specs.Prelude.{◌==◌}
use Rattle.std.specs.List.{slice_split, before_first, after_first, position, position_or_len}
use Rattle.std.specs.Str.Lines.{lines, lines_of_parts, strip_carriage_return}
use Rattle.std.proofs.lemmas.List.Sums.{fails_before_first}
use Rattle.std.proofs.lemmas.List.Splits.{slice_split_first, slice_split_none, length-slice_split}
use Rattle.std.proofs.lemmas.Bool.{ltb-true, ltb-false, ne_eqb}
use Rattle.script.specs.Lines.{script_lines}

abbrev pub ends_line : ℕ → Bool
ends_line b = b == 10

after_parts : (first : List ℕ) (parts : List (List ℕ)) → 0 < length parts → lines_of_parts (first ∷ parts) ≡ strip_carriage_return first ∷ lines_of_parts parts
after_parts first [] h = absurd (omega arith)
after_parts first (x ∷ xs) h = refl

-- what lines there are after a line feed
pub rest_parts : (first rest : List ℕ) → lines_of_parts (first ∷ slice_split ends_line rest) ≡ strip_carriage_return first ∷ lines rest
rest_parts first [] = refl
rest_parts first (b ∷ bs) = after_parts first (slice_split ends_line (b ∷ bs)) (omega (arith, length-slice_split ends_line (b ∷ bs)))

pub first_of_lines : (bytes : List ℕ) → position_or_len ends_line bytes < length bytes
    → script_lines bytes ≡ strip_carriage_return (before_first ends_line bytes) ∷ lines (after_first ends_line bytes)
first_of_lines [] h = absurd (omega arith)
first_of_lines (b ∷ bs) h = ap lines_of_parts (slice_split_first ends_line (b ∷ bs) 0 h) ∙ rest_parts (before_first ends_line (b ∷ bs)) (after_first ends_line (b ∷ bs))

pub only_line : (bytes : List ℕ) → length bytes ≤ position_or_len ends_line bytes → script_lines bytes ≡ bytes ∷ []
only_line [] h = refl
only_line (b ∷ bs) h =
    ap lines_of_parts (slice_split_none ends_line (b ∷ bs) (λ k d lt. fails_before_first ends_line (b ∷ bs) k d (omega (arith, lt, h)))) ∙ rw (ne_eqb (length (b ∷ bs)) 0 (λ e. omega (arith, e))) refl

-- where `position` finds a line feed
pub feed_at : (bytes : List ℕ) (end : ℕ) → position ends_line bytes ≡ Some end → (position_or_len ends_line bytes ≡ end) × (end < length bytes)
feed_at bytes end e = found (ltb (position_or_len ends_line bytes) (length bytes)) refl e
  where
    found : (t : Bool) → ltb (position_or_len ends_line bytes) (length bytes) ≡ t → cond t (Some (position_or_len ends_line bytes)) None ≡ Some end → (position_or_len ends_line bytes ≡ end) × (end < length bytes)
    found true lt is = let same : position_or_len ends_line bytes ≡ end = cc in (same, omega (arith, ltb-true _ _ lt, same))
    found false lt is = absurd cc

pub no_feed : (bytes : List ℕ) → position ends_line bytes ≡ None → length bytes ≤ position_or_len ends_line bytes
no_feed bytes e = found (ltb (position_or_len ends_line bytes) (length bytes)) refl e
  where
    found : (t : Bool) → ltb (position_or_len ends_line bytes) (length bytes) ≡ t → cond t (Some (position_or_len ends_line bytes)) None ≡ None → length bytes ≤ position_or_len ends_line bytes
    found true lt is = absurd cc
    found false lt is = ltb-false _ _ lt

pub first_of_lines_at : (bytes : List ℕ) (end : ℕ) → position ends_line bytes ≡ Some end
    → script_lines bytes ≡ strip_carriage_return (take end bytes) ∷ lines (drop (end + 1) bytes)
first_of_lines_at bytes end e =
    let at = feed_at bytes end e in
    rw (← at.0) (first_of_lines bytes (omega (arith, at.0, at.1)))
