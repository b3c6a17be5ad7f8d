-- Words of bytes that neither separate nor quote, names among them.
use Rattle.std.proofs.Common.{◌≡◌, ℕ, ◌<◌, Bool, true, false, ◌&&◌, ◌||◌, leb, ltb, List, [], ◌∷◌, length, refl, arith}
use Rattle.std.specs.Prelude.{nat_le, nat_lt, ◌==◌}
use Rattle.std.specs.List.{list_all}
use Rattle.std.specs.Char.{is_ascii_digit}
use Rattle.std.proofs.lemmas.Bool.{and_parts, and_from, or_left, ltb-true}
use Rattle.std.proofs.lemmas.Bool.Decides.{nat_tests}
use Rattle.script_line.specs.Words.{is_blank}
use Rattle.script_line.specs.Names.{is_capital, is_small, is_name}
use Rattle.script_line.proofs.WrittenWords.{is_one_piece, is_shown, IsWord}

-- such a byte neither separates nor quotes
abbrev pub IsInside : (ℕ → Bool) → (ℕ → Bool) → Type 0
IsInside separates is_fine = (b : ℕ) → is_fine b ≡ true → (separates b ≡ false) × ((b == 34) ≡ false)

pub piece_of : (separates is_fine : ℕ → Bool) → IsInside separates is_fine → (w : List ℕ) → list_all is_fine w ≡ true → is_one_piece separates false w ≡ true
piece_of separates is_fine inside [] e = refl
piece_of separates is_fine inside (b ∷ bs) e =
    let p = and_parts (is_fine b) (list_all is_fine bs) e in
    let s = inside b p.0 in
    rw (s.0, s.1) (piece_of separates is_fine inside bs p.1)

pub all_of : (p q : ℕ → Bool) → ((b : ℕ) → p b ≡ true → q b ≡ true) → (w : List ℕ) → list_all p w ≡ true → list_all q w ≡ true
all_of p q so [] e = refl
all_of p q so (b ∷ bs) e = let h = and_parts (p b) (list_all p bs) e in and_from (q b) (list_all q bs) (so b h.0) (all_of p q so bs h.1)

-- neither a blank nor a quote
abbrev pub is_solid : ℕ → Bool
is_solid b = nat_le 35 b && nat_le b 126

solid_inside : IsInside is_blank is_solid
solid_inside b e = (blank b e, quote b e)
  where
    blank : (b : ℕ) → is_solid b ≡ true → is_blank b ≡ false
    blank b e = grind (arith, nat_tests)

    quote : (b : ℕ) → is_solid b ≡ true → (b == 34) ≡ false
    quote b e = grind (arith, nat_tests)

solid_shown : (b : ℕ) → is_solid b ≡ true → is_shown b ≡ true
solid_shown b e = grind (arith, nat_tests)

pub solid_word : (w : List ℕ) → 0 < length w → list_all is_solid w ≡ true → IsWord w
solid_word w some e = record { some = some; piece = piece_of is_blank is_solid solid_inside w e; shown = all_of is_solid is_shown solid_shown w e }

-- a word of the language is one by computation
abbrev pub is_key : List ℕ → Bool
is_key w = nat_lt 0 (length w) && list_all is_solid w

pub key_word : (w : List ℕ) → is_key w ≡ true → IsWord w
key_word w e = let p = and_parts (ltb 0 (length w)) (list_all is_solid w) e in solid_word w (ltb-true 0 (length w) p.0) p.1

-- ---- names

name_word : (is_letter : ℕ → Bool) → ((b : ℕ) → (is_letter b || is_ascii_digit b) ≡ true → is_solid b ≡ true) → (n : List ℕ) → is_name is_letter n ≡ true → IsWord n
name_word is_letter solid [] e = absurd cc
name_word is_letter solid (b ∷ bs) e =
    let p = and_parts (is_letter b && leb (length bs) 7) (list_all (λ c. is_letter c || is_ascii_digit c) bs) e in
    let q = and_parts (is_letter b) (leb (length bs) 7) p.0 in
    let first : is_solid b ≡ true = solid b (or_left (is_letter b) (is_ascii_digit b) q.0) in
    solid_word (b ∷ bs) (omega arith) (and_from (is_solid b) (list_all is_solid bs) first (all_of (λ c. is_letter c || is_ascii_digit c) is_solid solid bs p.1))

capital_solid : (b : ℕ) → (is_capital b || is_ascii_digit b) ≡ true → is_solid b ≡ true
capital_solid b e = grind (arith, nat_tests)

small_solid : (b : ℕ) → (is_small b || is_ascii_digit b) ≡ true → is_solid b ≡ true
small_solid b e = grind (arith, nat_tests)

pub cell_name_word : (n : List ℕ) → is_name is_capital n ≡ true → IsWord n
cell_name_word = name_word is_capital capital_solid

pub local_name_word : (n : List ℕ) → is_name is_small n ≡ true → IsWord n
local_name_word = name_word is_small small_solid
