-- Words with a space between each two are cut into these words again.
use Rattle.std.proofs.Common.{◌≡◌, ℕ, ◌<◌, Bool, true, false, not, ◌&&◌, List, [], ◌∷◌, ◌++◌, length, refl, ap, ◌∙◌}
use Rattle.std.specs.Prelude.{filter, nat_le, nat_lt}
use Rattle.std.specs.List.{list_all}
use Rattle.std.proofs.lemmas.Bool.{and_parts, and_from, lt-ltb, not-true}
use Rattle.std.proofs.lemmas.List.{append-nil}
use Rattle.std.proofs.lemmas.List.Folds.{list_all-append}
use Rattle.plain_model.specs.Text.{behind_spaces, spaced}
use Rattle.script_line.specs.Words.{is_blank, quoted_after, pieces, words}

-- no separator stands outside quotes, and each quote is closed
abbrev pub is_one_piece : (ℕ → Bool) → Bool → List ℕ → Bool
is_one_piece separates quoted [] = not quoted
is_one_piece separates quoted (b ∷ bs) = not (separates b && not quoted) && is_one_piece separates (quoted_after quoted b) bs

pub one_piece-append : (separates : ℕ → Bool) (quoted : Bool) (w v : List ℕ) → is_one_piece separates quoted w ≡ true → is_one_piece separates false v ≡ true
    → is_one_piece separates quoted (w ++ v) ≡ true
one_piece-append separates true [] v e f = absurd cc
one_piece-append separates false [] v e f = f
one_piece-append separates quoted (b ∷ bs) v e f =
    let p = and_parts (not (separates b && not quoted)) (is_one_piece separates (quoted_after quoted b) bs) e in
    and_from (not (separates b && not quoted)) (is_one_piece separates (quoted_after quoted b) (bs ++ v)) p.0 (one_piece-append separates (quoted_after quoted b) bs v p.1 f)

pieces-of_one : (quoted : Bool) (w : List ℕ) → is_one_piece is_blank quoted w ≡ true → pieces is_blank quoted w ≡ w ∷ []
unfolding pieces
pieces-of_one quoted [] e = refl
pieces-of_one quoted (b ∷ bs) e =
    let p = and_parts (not (is_blank b && not quoted)) (is_one_piece is_blank (quoted_after quoted b) bs) e in
    rw (not-true (is_blank b && not quoted) p.0, pieces-of_one (quoted_after quoted b) bs p.1) refl

pieces-of_more : (quoted : Bool) (w rest : List ℕ) → is_one_piece is_blank quoted w ≡ true → pieces is_blank quoted (w ++ 32 ∷ rest) ≡ w ∷ pieces is_blank false rest
unfolding pieces
pieces-of_more true [] rest e = absurd cc
pieces-of_more false [] rest e = refl
pieces-of_more quoted (b ∷ bs) rest e =
    let p = and_parts (not (is_blank b && not quoted)) (is_one_piece is_blank (quoted_after quoted b) bs) e in
    rw (not-true (is_blank b && not quoted) p.0, pieces-of_more (quoted_after quoted b) bs rest p.1) refl

-- from the space to the tilde
abbrev pub is_shown : ℕ → Bool
is_shown b = nat_le 32 b && nat_le b 126

-- a word that is read as one, of such bytes
pub record IsWord (w : List ℕ) : Type 0 where
  pub some : 0 < length w
  pub piece : is_one_piece is_blank false w ≡ true
  pub shown : list_all is_shown w ≡ true

abbrev pub AreWords : List (List ℕ) → Type 0
AreWords [] = Unit {0}
AreWords (w ∷ ws) = IsWord w × AreWords ws

pub words-append : (us vs : List (List ℕ)) → AreWords us → AreWords vs → AreWords (us ++ vs)
words-append [] vs a b = b
words-append (u ∷ us) vs a b = (a.0, words-append us vs a.1 b)

abbrev nonempty : List (List ℕ) → List (List ℕ)
nonempty ps = filter (λ piece. nat_lt 0 (length piece)) ps

front_word : (w : List ℕ) (ps : List (List ℕ)) → 0 < length w → nonempty (w ∷ ps) ≡ w ∷ nonempty ps
front_word w ps h = rw (lt-ltb 0 (length w) h) refl

pub words-spaced : (ws : List (List ℕ)) → AreWords ws → words (spaced ws) ≡ ws
unfolding pieces
words-spaced [] all = refl
words-spaced (w ∷ []) all = ap words (append-nil w) ∙ ap nonempty (pieces-of_one false w all.0.piece) ∙ front_word w [] all.0.some
words-spaced (w ∷ v ∷ vs) all =
    ap nonempty (pieces-of_more false w (spaced (v ∷ vs)) all.0.piece) ∙ front_word w (pieces is_blank false (spaced (v ∷ vs))) all.0.some ∙ ap (λ us. w ∷ us) (words-spaced (v ∷ vs) all.1)

behind_spaces-shown : (ws : List (List ℕ)) → AreWords ws → list_all is_shown (behind_spaces ws) ≡ true
behind_spaces-shown [] all = refl
behind_spaces-shown (w ∷ ws) all =
    list_all-append is_shown w (behind_spaces ws) ∙ and_from (list_all is_shown w) (list_all is_shown (behind_spaces ws)) all.0.shown (behind_spaces-shown ws all.1)

pub spaced-shown : (ws : List (List ℕ)) → AreWords ws → list_all is_shown (spaced ws) ≡ true
spaced-shown [] all = refl
spaced-shown (w ∷ ws) all =
    list_all-append is_shown w (behind_spaces ws) ∙ and_from (list_all is_shown w) (list_all is_shown (behind_spaces ws)) all.0.shown (behind_spaces-shown ws all.1)
