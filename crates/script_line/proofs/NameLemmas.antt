-- Which words are texts.
use Rattle.std.proofs.Common.{◌≡◌, ℕ, ◌≤◌, Bool, true, ◌&&◌, ◌||◌, leb, List, [], ◌∷◌, length, Option, Some, None, refl, ap, arith}
use Rattle.std.specs.Prelude.{◌↔◌, IsSome, IfSome}
use Rattle.std.specs.List.{list_all}
use Rattle.std.specs.Char.{is_ascii_digit}
use Rattle.std.proofs.lemmas.List.Sums.{AllPass-from_list_all, list_all-from_AllPass}
use Rattle.std.proofs.lemmas.Bool.{false≢true, false_from_ne_true, and_parts, and_from, or_left, leb-true, le-leb}
use Rattle.std.proofs.lemmas.Bool.Decides.{nat_tests}
use Rattle.imm_base.specs.Text.{is_plain_byte, IsText24}
use Rattle.script_line.specs.Values.{is_text, text_of}
use Rattle.script_line.specs.Names.{is_capital, is_small, is_name}

IsText24-from_test : (text : List ℕ) → is_text text ≡ true → IsText24 text
IsText24-from_test text e =
    let p = and_parts (leb (length text) 24) (list_all is_plain_byte text) e in
    record { short = leb-true (length text) 24 p.0; plain = AllPass-from_list_all is_plain_byte text p.1 }

test-from_IsText24 : (text : List ℕ) → IsText24 text → is_text text ≡ true
test-from_IsText24 text h = and_from _ _ (le-leb (length text) 24 h.short) (list_all-from_AllPass is_plain_byte text h.plain)

-- what is made of bytes exactly where they are a text
pub text_of-made : (text : List ℕ) (r : Option (List ℕ)) → (IsSome r ↔ IsText24 text) → IfSome r (λ t. t ≡ text) → r ≡ text_of text
text_of-made text (Some t) one same = rw (test-from_IsText24 text (one.0 refl)) (ap (λ (u : List ℕ). Some u) same)
text_of-made text None one same = rw (false_from_ne_true (is_text text) (λ e. false≢true (one.1 (IsText24-from_test text e)))) refl

-- each letter or digit may stand in a text
abbrev Plain : (ℕ → Bool) → Type 0
Plain is_letter = (b : ℕ) → (is_letter b || is_ascii_digit b) ≡ true → is_plain_byte b ≡ true

plain_all : (is_letter : ℕ → Bool) → Plain is_letter → (bs : List ℕ) → list_all (λ b. is_letter b || is_ascii_digit b) bs ≡ true → list_all is_plain_byte bs ≡ true
plain_all is_letter plain [] e = refl
plain_all is_letter plain (b ∷ bs) e = let p = and_parts _ _ e in and_from _ _ (plain b p.0) (plain_all is_letter plain bs p.1)

plain_capital : Plain is_capital
plain_capital b e = grind (arith, nat_tests)

plain_small : Plain is_small
plain_small b e = grind (arith, nat_tests)

is_text-name : (is_letter : ℕ → Bool) → Plain is_letter → (word : List ℕ) → is_name is_letter word ≡ true → is_text word ≡ true
is_text-name is_letter plain [] e = absurd cc
is_text-name is_letter plain (b ∷ bs) e =
    let p = and_parts (is_letter b && leb (length bs) 7) (list_all (λ c. is_letter c || is_ascii_digit c) bs) e in
    let q = and_parts (is_letter b) (leb (length bs) 7) p.0 in
    let short : length bs ≤ 7 = leb-true (length bs) 7 q.1 in
    and_from _ _ (le-leb (length (b ∷ bs)) 24 (omega arith)) (and_from _ _ (plain b (or_left (is_letter b) (is_ascii_digit b) q.0)) (plain_all is_letter plain bs p.1))

pub is_text-cell_name : (word : List ℕ) → is_name is_capital word ≡ true → is_text word ≡ true
is_text-cell_name = is_text-name is_capital plain_capital

pub is_text-local_name : (word : List ℕ) → is_name is_small word ≡ true → is_text word ≡ true
is_text-local_name = is_text-name is_small plain_small
