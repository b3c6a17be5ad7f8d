-- Cutting a line into words, byte by byte.
use Rattle.std.proofs.Common.{◌≡◌, ℕ, ◌+◌, ◌-◌, ◌<◌, ◌≤◌, Bool, true, false, not, ◌&&◌, cond, ltb, List, [], ◌∷◌, ◌++◌, length, get_or, drop, refl, sym, ap, ◌∙◌, arith, append_assoc}
use Rattle.std.specs.Prelude.{filter, slice_range, nat_lt}
use Rattle.std.specs.List.{onto_first}
use Rattle.std.proofs.lemmas.List.{append-nil, drop_more, drop_all, nil_from_length, length-take}
use Rattle.std.proofs.lemmas.List.Edits.{between_more}
use Rattle.script_line.specs.Words.{is_blank, quoted_after, pieces, words, unless_empty}

-- the pieces, where the first one began before
abbrev pub begun : List ℕ → List (List ℕ) → List (List ℕ)
begun front [] = front ∷ []
begun front (piece ∷ more) = (front ++ piece) ∷ more

abbrev pub nonempty : List (List ℕ) → List (List ℕ)
nonempty ps = filter (λ piece. nat_lt 0 (length piece)) ps

-- the words that are still to come, where some bytes of the next one have come
abbrev pub left : Bool → List ℕ → List ℕ → List (List ℕ)
left quoted front rest = nonempty (begun front (pieces is_blank quoted rest))

begun-onto_nil : (b : ℕ) (ps : List (List ℕ)) → begun [] (onto_first b ps) ≡ onto_first b ps
begun-onto_nil b [] = refl
begun-onto_nil b (p ∷ ps) = refl

begun-cond_nil : (t : Bool) (b : ℕ) (ps qs : List (List ℕ)) → begun [] (cond t ([] ∷ ps) (onto_first b qs)) ≡ cond t ([] ∷ ps) (onto_first b qs)
begun-cond_nil true b ps qs = refl
begun-cond_nil false b ps qs = begun-onto_nil b qs

pub begun-nil : (quoted : Bool) (rest : List ℕ) → begun [] (pieces is_blank quoted rest) ≡ pieces is_blank quoted rest
unfolding pieces
begun-nil quoted [] = refl
begun-nil quoted (b ∷ bs) = begun-cond_nil (is_blank b && not quoted) b (pieces is_blank (quoted_after quoted b) bs) (pieces is_blank (quoted_after quoted b) bs)

left-start : (line : List ℕ) → left false [] line ≡ words line
left-start line = ap nonempty (begun-nil false line)

first_word : (t : Bool) (front : List ℕ) (ps : List (List ℕ)) → cond t (front ∷ ps) ps ≡ cond t (front ∷ []) [] ++ ps
first_word true front ps = refl
first_word false front ps = refl

left-split : (quoted : Bool) (front : List ℕ) (b : ℕ) (bs : List ℕ) → (is_blank b && not quoted) ≡ true
    → left quoted front (b ∷ bs) ≡ unless_empty front ++ left (quoted_after quoted b) [] bs
unfolding pieces
left-split quoted front b bs split =
    rw (split, append-nil front, begun-nil (quoted_after quoted b) bs) (first_word (ltb 0 (length front)) front (nonempty (pieces is_blank (quoted_after quoted b) bs)))

begun-onto : (front : List ℕ) (b : ℕ) (ps : List (List ℕ)) → begun front (onto_first b ps) ≡ begun (front ++ b ∷ []) ps
begun-onto front b [] = refl
begun-onto front b (p ∷ ps) = ap (λ (w : List ℕ). w ∷ ps) (sym (append_assoc front (b ∷ []) p))

left-other : (quoted : Bool) (front : List ℕ) (b : ℕ) (bs : List ℕ) → (is_blank b && not quoted) ≡ false
    → left quoted front (b ∷ bs) ≡ left (quoted_after quoted b) (front ++ b ∷ []) bs
unfolding pieces
left-other quoted front b bs other = rw other (ap nonempty (begun-onto front b (pieces is_blank (quoted_after quoted b) bs)))

left-end : (quoted : Bool) (front : List ℕ) → left quoted front [] ≡ unless_empty front
unfolding pieces
left-end quoted front = rw append-nil refl

-- what the loop keeps
pub record Cuts (line : List ℕ) (found : List (List ℕ)) (start i : ℕ) (quoted : Bool) : Type 0 where
  pub ordered : start ≤ i
  pub so_far : found ++ left quoted (slice_range line start i) (drop i line) ≡ words line

pub Cuts-start : (line : List ℕ) → Cuts line [] 0 0 false
Cuts-start line = record { ordered = omega arith; so_far = left-start line }

pub Cuts-split : (line : List ℕ) (found : List (List ℕ)) (start i : ℕ) (quoted : Bool) → i < length line → (is_blank (get_or line i 0) && not quoted) ≡ true → Cuts line found start i quoted
    → Cuts line (found ++ unless_empty (slice_range line start i)) (i + 1) (i + 1) (quoted_after quoted (get_or line i 0))
Cuts-split line found start i quoted lt split cuts =
    let b = get_or line i 0 in
    let empty : slice_range line (i + 1) (i + 1) ≡ [] = nil_from_length _ (omega (arith, length-take ((i + 1) - (i + 1)) (drop (i + 1) line))) in
    let step : left quoted (slice_range line start i) (drop i line) ≡ unless_empty (slice_range line start i) ++ left (quoted_after quoted b) [] (drop (i + 1) line) = ap (left quoted (slice_range line start i)) (drop_more line i 0 lt) ∙ left-split quoted (slice_range line start i) b (drop (i + 1) line) split in
    record { ordered = omega arith; so_far = rw (empty, append_assoc, ← step) cuts.so_far }

pub Cuts-other : (line : List ℕ) (found : List (List ℕ)) (start i : ℕ) (quoted : Bool) → i < length line → (is_blank (get_or line i 0) && not quoted) ≡ false → Cuts line found start i quoted
    → Cuts line found start (i + 1) (quoted_after quoted (get_or line i 0))
Cuts-other line found start i quoted lt other cuts =
    let b = get_or line i 0 in
    let step : left quoted (slice_range line start i) (drop i line) ≡ left (quoted_after quoted b) (slice_range line start i ++ b ∷ []) (drop (i + 1) line) = ap (left quoted (slice_range line start i)) (drop_more line i 0 lt) ∙ left-other quoted (slice_range line start i) b (drop (i + 1) line) other in
    record { ordered = omega (arith, cuts.ordered); so_far = rw (between_more line start i 0 cuts.ordered lt, ← step) cuts.so_far }

pub Cuts-end : (line : List ℕ) (found : List (List ℕ)) (start i : ℕ) (quoted : Bool) → i ≡ length line → Cuts line found start i quoted
    → found ++ unless_empty (slice_range line start (length line)) ≡ words line
Cuts-end line found start i quoted end cuts =
    let last : left quoted (slice_range line start i) (drop i line) ≡ unless_empty (slice_range line start (length line)) = rw (end, drop_all (length line) line (omega arith)) (left-end quoted (slice_range line start (length line))) in
    rw (← last) cuts.so_far
