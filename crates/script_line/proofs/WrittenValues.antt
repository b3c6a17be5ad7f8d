-- Values, pairs and numbers that are written are read again.
use Rattle.std.proofs.Common.{◌≡◌, ℕ, suc, ◌+◌, ◌-◌, ◌^◌, ◌<◌, ◌≤◌, Bool, true, false, not, ◌&&◌, cond, leb, [], ◌∷◌, ◌++◌, length, take, drop, Option, Some, None, Ok, Err, refl, sym, ap, subst, ◌∙◌, arith, append_assoc}
use Rattle.std.specs.Prelude.{ℤ, pos, negsuc, nat_le, slice_index, ◌==◌}
use Rattle.std.specs.List.{list_all}
use Rattle.std.specs.Option.{option_map}
use Rattle.std.specs.Char.{is_ascii_digit}
use Rattle.std.specs.Fmt.{decimal, signed_decimal}
use Rattle.std.specs.Str.{bytes_eq}
use Rattle.std.proofs.lemmas.Bool.{and_parts, and_from, ne_eqb, leb-true, not-true}
use Rattle.std.proofs.lemmas.Bool.Decides.{nat_tests}
use Rattle.std.proofs.lemmas.Fmt.{digits_decimal, decimal_nonempty}
use Rattle.std.proofs.lemmas.List.{length-append, get_or_push, take_at, drop_at}
use Rattle.std.proofs.lemmas.List.Folds.{list_all-append}
use Rattle.imm_base.specs.declared.val.Val.{Val}
use Rattle.imm_base.specs.declared.val.Val.TheVariants as vals
use Rattle.imm_base.specs.Text.{is_plain_byte}
use Rattle.imm_base.specs.Spell.{val_text}
use Rattle.plain_model.specs.Text.{pair_word}
use Rattle.script_line.specs.declared.codes.Code.{Code}
use Rattle.script_line.specs.declared.codes.Code.TheVariants.{Value, Name}
use Rattle.script_line.specs.Codes.{◌⊗◌, some_or}
use Rattle.script_line.specs.Words.{is_blank, quoted_after}
use Rattle.script_line.specs.Numerals.{integer_of, number_of}
use Rattle.script_line.specs.Names.{is_capital, is_small, is_name, name, cell_name, local_name}
use Rattle.script_line.specs.Values.{is_text, text_of, quoted_text, value_of, value, equals_sign, pair_at, pair, integer, number}
use Rattle.script_line.proofs.Digits.{own}
use Rattle.script_line.proofs.Judgements.{both_ok}
use Rattle.script_line.proofs.WrittenWords.{is_one_piece, one_piece-append, is_shown, IsWord}
use Rattle.script_line.proofs.WrittenLetters.{IsInside, piece_of, all_of, is_solid, solid_word, cell_name_word, local_name_word}
use Rattle.script_line.proofs.WrittenNumbers.{IsInteger, number_of-decimal, integer_of-decimal, integer-fits, number-fits}
use Rattle.script_line.proofs.ReadAgain.{Word, ReadsWordAgain}

some_or_ok : {A : Type 0} (c : Code) (o : Option A) (a : A) → some_or c o ≡ Ok a → o ≡ Some a
some_or_ok c None a e = absurd cc
some_or_ok {A} c (Some b) a e = let same : b ≡ a = cc in ap (λ (x : A). Some x) same

-- ---- names

name_is : (is_letter : ℕ → Bool) (w n : Word) → name is_letter w ≡ Ok n → is_name is_letter n ≡ true
name_is is_letter w n e = by_test (is_name is_letter w) refl e
  where
    by_test : (t : Bool) → is_name is_letter w ≡ t → cond t (Ok w) (Err Name) ≡ Ok n → is_name is_letter n ≡ true
    by_test true is found = let same : w ≡ n = cc in subst (λ (x : Word). is_name is_letter x ≡ true) same is
    by_test false is found = absurd cc

pub cell_name-again : ReadsWordAgain cell_name (λ n. n)
cell_name-again w n e = let is = name_is is_capital w n e in record { word = cell_name_word n is; again = rw is refl }

pub local_name-again : ReadsWordAgain local_name (λ n. n)
local_name-again w n e = let is = name_is is_small w n e in record { word = local_name_word n is; again = rw is refl }

-- ---- what is written for a value

abbrev pub is_equals : ℕ → Bool
is_equals b = b == 61

-- begins before the letters
abbrev pub is_low : Word → Bool
is_low [] = false
is_low (b ∷ bs) = nat_le b 57

-- a word that begins before the letters, without an equals sign outside quotes
pub record IsValueWord (w : Word) : Type 0 where
  pub word : IsWord w
  pub side : is_one_piece is_equals false w ≡ true
  pub low : is_low w ≡ true

digit_solid : (b : ℕ) → is_ascii_digit b ≡ true → is_solid b ≡ true
digit_solid b e = grind (arith, nat_tests)

digit_inside : IsInside is_equals is_ascii_digit
digit_inside b e = (equals b e, quote b e)
  where
    equals : (b : ℕ) → is_ascii_digit b ≡ true → is_equals b ≡ false
    equals b e = grind (arith, nat_tests)

    quote : (b : ℕ) → is_ascii_digit b ≡ true → (b == 34) ≡ false
    quote b e = grind (arith, nat_tests)

digit_low : (b : ℕ) → is_ascii_digit b ≡ true → nat_le b 57 ≡ true
digit_low b e = grind (arith, nat_tests)

digits_low : (ds : Word) → list_all is_ascii_digit ds ≡ true → 0 < length ds → is_low ds ≡ true
digits_low [] e some = absurd (omega arith)
digits_low (d ∷ ds) e some = digit_low d (and_parts (is_ascii_digit d) (list_all is_ascii_digit ds) e).0

digits_word : (ds : Word) → list_all is_ascii_digit ds ≡ true → 0 < length ds → IsValueWord ds
digits_word ds e some = record {
  word = solid_word ds some (all_of is_ascii_digit is_solid digit_solid ds e);
  side = piece_of is_equals is_ascii_digit digit_inside ds e;
  low = digits_low ds e some;
}

minus_word : (ds : Word) → IsValueWord ds → IsValueWord (45 ∷ ds)
minus_word ds v = record {
  word = record { some = omega arith; piece = v.word.piece; shown = v.word.shown };
  side = v.side;
  low = refl;
}

decimal_word : (n : ℕ) → n < 2 ^ 64 → IsValueWord (decimal n)
decimal_word n lt = digits_word (decimal n) (digits_decimal own n lt) (decimal_nonempty n lt)

integer_word : (z : ℤ) → IsInteger z → IsValueWord (signed_decimal z)
integer_word (pos n) fits = decimal_word n (omega arith)
integer_word (negsuc n) fits = minus_word (decimal (suc n)) (decimal_word (suc n) (omega arith))

-- what stands in quotes is one piece, whatever separates
unquoted : (t : Bool) → not (t && false) ≡ true
unquoted true = refl
unquoted false = refl

plain_quote : (b : ℕ) → is_plain_byte b ≡ true → (b == 34) ≡ false
plain_quote b e = grind (arith, nat_tests)

plain_shown : (b : ℕ) → is_plain_byte b ≡ true → is_shown b ≡ true
plain_shown b e = grind (arith, nat_tests)

quoted_piece : (separates : ℕ → Bool) (text : Word) → list_all is_plain_byte text ≡ true → is_one_piece separates true (text ++ 34 ∷ []) ≡ true
quoted_piece separates [] e = and_from (not (separates 34 && false)) true (unquoted (separates 34)) refl
quoted_piece separates (b ∷ bs) e =
    let p = and_parts (is_plain_byte b) (list_all is_plain_byte bs) e in
    rw (plain_quote b p.0) (and_from (not (separates b && false)) (is_one_piece separates true (bs ++ 34 ∷ [])) (unquoted (separates b)) (quoted_piece separates bs p.1))

quoted_shown : (text : Word) → list_all is_plain_byte text ≡ true → list_all is_shown (text ++ 34 ∷ []) ≡ true
quoted_shown [] e = refl
quoted_shown (b ∷ bs) e =
    let p = and_parts (is_plain_byte b) (list_all is_plain_byte bs) e in
    and_from (is_shown b) (list_all is_shown (bs ++ 34 ∷ [])) (plain_shown b p.0) (quoted_shown bs p.1)

text_word : (text : Word) → list_all is_plain_byte text ≡ true → IsValueWord (34 ∷ (text ++ 34 ∷ []))
text_word text e = record {
  word = record { some = omega arith; piece = quoted_piece is_blank text e; shown = quoted_shown text e };
  side = quoted_piece is_equals text e;
  low = refl;
}

-- ---- values

abbrev IsValue : Val → Type 0
IsValue (vals.Int z) = IsInteger z
IsValue (vals.Text text) = is_text text ≡ true

text-is : (bytes text : Word) → text_of bytes ≡ Some text → is_text text ≡ true
text-is bytes text e = by_test (is_text bytes) refl e
  where
    by_test : (t : Bool) → is_text bytes ≡ t → cond t (Some bytes) None ≡ Some text → is_text text ≡ true
    by_test true is found = let same : bytes ≡ text = cc in subst (λ (x : Word). is_text x ≡ true) same is
    by_test false is found = absurd cc

quoted-is : (rest text : Word) → quoted_text rest ≡ Some text → is_text text ≡ true
quoted-is rest text e = by_test (slice_index rest (length rest - 1) == 34) e
  where
    by_test : (t : Bool) → cond t (text_of (take (length rest - 1) rest)) None ≡ Some text → is_text text ≡ true
    by_test true found = text-is (take (length rest - 1) rest) text found
    by_test false found = absurd cc

mapped_some : {A B : Type 0} (f : A → B) (o : Option A) (b : B) → option_map f o ≡ Some b → (a : A) × (o ≡ Some a) × (f a ≡ b)
mapped_some f None b e = absurd cc
mapped_some f (Some a) b e = (a, refl, cc)

value_of-is : (w : Word) (v : Val) → value_of w ≡ Some v → IsValue v
value_of-is [] v e = absurd cc
value_of-is (b ∷ bs) v e = by_test (b == 34) e
  where
    by_test : (t : Bool) → cond t (option_map vals.Text (quoted_text bs)) (option_map vals.Int (integer_of (b ∷ bs))) ≡ Some v → IsValue v
    by_test true found = let m = mapped_some vals.Text (quoted_text bs) v found in subst IsValue m.2 (quoted-is bs m.0 m.1)
    by_test false found = let m = mapped_some vals.Int (integer_of (b ∷ bs)) v found in subst IsValue m.2 (integer-fits (b ∷ bs) m.0 m.1)

value-is : (w : Word) (v : Val) → value w ≡ Ok v → IsValue v
value-is w v e = value_of-is w v (some_or_ok Value (value_of w) v e)

value_word : (v : Val) → IsValue v → IsValueWord (val_text v)
value_word (vals.Int z) is = integer_word z is
value_word (vals.Text text) is = text_word text (and_parts (leb (length text) 24) (list_all is_plain_byte text) is).1

quoted-again : (text : Word) → is_text text ≡ true → quoted_text (text ++ 34 ∷ []) ≡ Some text
quoted-again text is =
    let len : length (text ++ 34 ∷ []) - 1 ≡ length text = omega (arith, length-append text (34 ∷ [])) in
    rw (len, get_or_push text 34 0 (length text) refl, take_at text (34 ∷ []) (length text) refl, is) refl

value_of-digits : (ds : Word) → list_all is_ascii_digit ds ≡ true → 0 < length ds → value_of ds ≡ option_map vals.Int (integer_of ds)
value_of-digits [] e some = absurd (omega arith)
value_of-digits (d ∷ ds) e some = rw (digit_inside d (and_parts (is_ascii_digit d) (list_all is_ascii_digit ds) e).0).1 refl

value-of : (v : Val) → IsValue v → value (val_text v) ≡ Ok v
value-of (vals.Int (pos n)) fits =
    ap (some_or Value) (value_of-digits (decimal n) (digits_decimal own n (omega arith)) (decimal_nonempty n (omega arith)) ∙ ap (option_map vals.Int) (integer_of-decimal (pos n) fits))
value-of (vals.Int (negsuc n)) fits = ap (λ o. some_or Value (option_map vals.Int o)) (integer_of-decimal (negsuc n) fits)
value-of (vals.Text text) is = rw (quoted-again text is) refl

pub value-again : ReadsWordAgain value val_text
value-again w v e = let is = value-is w v e in record { word = (value_word v is).word; again = value-of v is }

pub value-low : (w : Word) (v : Val) → value w ≡ Ok v → is_low (val_text v) ≡ true
value-low w v e = (value_word v (value-is w v e)).low

-- ---- pairs

equals_found : (quoted : Bool) (w rest : Word) → is_one_piece is_equals quoted w ≡ true → equals_sign quoted (w ++ 61 ∷ rest) ≡ Some (length w)
equals_found true [] rest e = absurd cc
equals_found false [] rest e = refl
equals_found quoted (b ∷ bs) rest e =
    let p = and_parts (not (is_equals b && not quoted)) (is_one_piece is_equals (quoted_after quoted b) bs) e in
    let one : length bs + 1 ≡ length (b ∷ bs) = omega arith in
    rw (not-true (is_equals b && not quoted) p.0, equals_found (quoted_after quoted b) bs rest p.1) (ap (λ (i : ℕ). Some i) one)

pair-of : (k v : Val) → IsValue k → IsValue v → pair (pair_word (k, v)) ≡ Ok (k, v)
pair-of k v is_key is_value =
    let key : Word = val_text k in
    let rest : Word = val_text v in
    let found : equals_sign false (key ++ 61 ∷ rest) ≡ Some (length key) = equals_found false key rest (value_word k is_key).side in
    let front : take (length key) (key ++ 61 ∷ rest) ≡ key = take_at key (61 ∷ rest) (length key) refl in
    let size : length (key ++ 61 ∷ []) ≡ length key + 1 = length-append key (61 ∷ []) in
    let back : drop (length key + 1) (key ++ 61 ∷ rest) ≡ rest =
    ap (drop (length key + 1)) (sym (append_assoc key (61 ∷ []) rest)) ∙ drop_at (key ++ 61 ∷ []) rest (length key + 1) size in
    ap (pair_at (key ++ 61 ∷ rest)) found
    ∙ ap (λ w. value w ⊗ value (drop (length key + 1) (key ++ 61 ∷ rest))) front
    ∙ ap (λ w. value key ⊗ value w) back
    ∙ ap (λ x. x ⊗ value rest) (value-of k is_key)
    ∙ ap (λ x. Ok k ⊗ x) (value-of v is_value)

joined : (u v : Word) → IsValueWord u → IsValueWord v → IsWord (u ++ 61 ∷ v)
joined u v a b = record {
  some = omega (arith, length-append u (61 ∷ v), a.word.some);
  piece = one_piece-append is_blank false u (61 ∷ v) a.word.piece b.word.piece;
  shown = list_all-append is_shown u (61 ∷ v) ∙ and_from (list_all is_shown u) (list_all is_shown (61 ∷ v)) a.word.shown b.word.shown;
}

record ArePair (p : Val × Val) : Type 0 where
  key : IsValue p.0
  value : IsValue p.1

pair_at-is : (w : Word) (o : Option ℕ) (p : Val × Val) → pair_at w o ≡ Ok p → ArePair p
pair_at-is w None p e = absurd cc
pair_at-is w (Some i) p e =
    let b = both_ok (value (take i w)) (value (drop (i + 1) w)) p e in
    record { key = value-is (take i w) p.0 b.0; value = value-is (drop (i + 1) w) p.1 b.1 }

pub pair-again : ReadsWordAgain pair pair_word
pair-again w p e =
    let are = pair_at-is w (equals_sign false w) p e in
    record { word = joined (val_text p.0) (val_text p.1) (value_word p.0 are.key) (value_word p.1 are.value); again = pair-of p.0 p.1 are.key are.value }

low-append : (u v : Word) → is_low u ≡ true → is_low (u ++ v) ≡ true
low-append [] v e = absurd cc
low-append (b ∷ bs) v e = e

pub pair-low : (w : Word) (p : Val × Val) → pair w ≡ Ok p → is_low (pair_word p) ≡ true
pair-low w p e = low-append (val_text p.0) (61 ∷ val_text p.1) (value_word p.0 (pair_at-is w (equals_sign false w) p e).key).low

-- ---- integers and numbers

pub integer-again : ReadsWordAgain integer signed_decimal
integer-again w z e =
    let fits = integer-fits w z (some_or_ok Value (integer_of w) z e) in
    record { word = (integer_word z fits).word; again = ap (some_or Value) (integer_of-decimal z fits) }

pub number-again : ReadsWordAgain number decimal
number-again w n e =
    let fits : n < 2 ^ 32 = number-fits w n (some_or_ok Value (number_of w) n e) in
    record { word = (decimal_word n (omega arith)).word; again = ap (some_or Value) (number_of-decimal n fits) }

-- a word that begins before the letters is no word that begins with one
pub not_word : (w : Word) (c : ℕ) (cs : Word) → is_low w ≡ true → 57 < c → bytes_eq w (c ∷ cs) ≡ false
not_word [] c cs e lt = absurd cc
not_word (b ∷ bs) c cs e lt =
    let low : b ≤ 57 = leb-true b 57 e in
    rw (ne_eqb b c (λ same. omega (arith, same, low, lt))) refl
