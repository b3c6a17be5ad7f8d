-- The words of a line.
use Rattle.std.specs.Prelude.{ℕ, List, [], ◌∷◌, Bool, false, not, ◌&&◌, ◌||◌, length, map, filter, nat_lt, ◌==◌, if◌then◌else◌}
use Rattle.std.specs.List.{onto_first}
use Rattle.std.specs.Borrow.{Bor}

-- a space or a tab
abbrev pub is_blank : ℕ → Bool
is_blank b = b == 32 || b == 9

-- whether a pair of quotes is open after this byte
abbrev pub quoted_after : Bool → ℕ → Bool
quoted_after quoted b = if b == 34 then not quoted else quoted

-- The pieces of a text between the bytes that are separators. A pair of quotes keeps what stands
-- inside it whole, and a quote that is not closed keeps the rest.
unfoldable pub pieces : (ℕ → Bool) → Bool → List ℕ → List (List ℕ)
pieces separates quoted [] = [] ∷ []
pieces separates quoted (b ∷ bs) = if separates b && not quoted then [] ∷ pieces separates (quoted_after quoted b) bs
    else onto_first b (pieces separates (quoted_after quoted b) bs)

-- The pieces between blanks that are not empty.
abbrev pub words : List ℕ → List (List ℕ)
words line = filter (λ piece. nat_lt 0 (length piece)) (pieces is_blank false line)

-- what the words of the code are
abbrev pub bytes_of : List (Bor (List ℕ)) → List (List ℕ)
bytes_of found = map (λ word. word.now) found

-- a word, if it is not empty
abbrev pub unless_empty : List ℕ → List (List ℕ)
unless_empty word = if nat_lt 0 (length word) then word ∷ [] else []
