-- The values at the end of a line, or the name that gives them.
use Rattle.std.proofs.Common.{◌≡◌, ℕ, ◌^◌, Bool, true, false, cond, List, [], ◌∷◌, map, Option, Some, None, Result, Ok, Err, refl, sym, ap, subst, ◌∙◌, arith}
use Rattle.std.specs.Prelude.{ℤ, pos, ◌+ℤ◌, int_le}
use Rattle.std.specs.Prelude.{codes as bytes}
use Rattle.std.specs.Fmt.{decimal, signed_decimal}
use Rattle.std.specs.Str.{bytes_eq}
use Rattle.imm_base.specs.declared.val.Val.{Val}
use Rattle.imm_base.specs.Spell.{val_text}
use Rattle.plain_model.specs.declared.kinds.ItemKind.{ItemKind}
use Rattle.plain_model.specs.declared.kinds.ItemKind.TheVariants as item_kinds
use Rattle.plain_model.specs.declared.plain.Values.{Values}
use Rattle.plain_model.specs.declared.plain.Values.TheVariants as values
use Rattle.plain_model.specs.Text.{pair_word, values_words, source_words}
use Rattle.script_line.specs.declared.codes.Code.{Code}
use Rattle.script_line.specs.declared.codes.Code.TheVariants.{Value}
use Rattle.script_line.specs.declared.sources.Scope.{Scope}
use Rattle.script_line.specs.declared.sources.Scope.TheVariants as scopes
use Rattle.script_line.specs.declared.sources.Source.{Source}
use Rattle.script_line.specs.Codes.{◌>>=◌, ◌⊗◌}
use Rattle.script_line.specs.Values.{value, pair, integer, number}
use Rattle.script_line.specs.Names.{local_name}
use Rattle.script_line.specs.Sources.{each, items, sequence, seq_words, values_of, source_in_line, source_from, source_of}
use Rattle.script_line.proofs.Judgements.{bind_ok, both_ok, moved, made_ok}
use Rattle.script_line.proofs.WrittenWords.{AreWords}
use Rattle.script_line.proofs.WrittenLetters.{key_word}
use Rattle.script_line.proofs.ReadAgain.{Word, Words, AreReadAgain, ReadsAgain, both, each-again}
use Rattle.script_line.proofs.WrittenValues.{is_low, local_name-again, value-again, value-low, pair-again, pair-low, integer-again, number-again, not_word}

-- the first word, if there is one, begins before the letters
abbrev begin_low : Words → Bool
begin_low [] = true
begin_low (w ∷ ws) = is_low w

abbrev begin_from : Words → Bool
begin_from [] = false
begin_from (w ∷ ws) = bytes_eq w (bytes "from")

-- values that are written are read again, and do not begin as a name that gives them
record AreValuesAgain (item : ItemKind) (vs : Values) : Type 0 where
  read : AreReadAgain (values_of item) values_words vs
  other : begin_from (values_words vs) ≡ false

each-low : {A : Type 0} (read : Word → Result A Code) (write : A → Word) → ((w : Word) (a : A) → read w ≡ Ok a → is_low (write a) ≡ true)
    → (ws : Words) (xs : List A) → each read ws ≡ Ok xs → begin_low (map write xs) ≡ true
each-low {A} read write low [] xs e = moved (λ (ys : List A). begin_low (map write ys) ≡ true) [] xs e refl
each-low {A} read write low (w ∷ ws) xs e =
    let b = bind_ok (read w) (λ y. each read ws >>= λ ys. Ok (y ∷ ys)) xs e in
    let c = bind_ok (each read ws) (λ ys. Ok (b.0 ∷ ys)) xs b.2 in
    moved (λ (ys : List A). begin_low (map write ys) ≡ true) (b.0 ∷ c.0) xs c.2 (low w b.0 b.1)

as_items : (item : ItemKind) (ws : Words) → begin_low ws ≡ true → values_of item ws ≡ items item ws
as_items item [] e = refl
as_items item (w ∷ ws) e = rw (not_word w 115 (101 ∷ 113 ∷ []) e (omega arith)) refl

not_from : (ws : Words) → begin_low ws ≡ true → begin_from ws ≡ false
not_from [] e = refl
not_from (w ∷ ws) e = not_word w 102 (114 ∷ 111 ∷ 109 ∷ []) e (omega arith)

listed : (item : ItemKind) (vs : Values) → AreReadAgain (items item) values_words vs → begin_low (values_words vs) ≡ true → AreValuesAgain item vs
listed item vs r low = record {
  read = record { words = r.words; again = as_items item (values_words vs) low ∙ r.again };
  other = not_from (values_words vs) low;
}

items-again : (item : ItemKind) (ws : Words) (vs : Values) → items item ws ≡ Ok vs → AreValuesAgain item vs
items-again item_kinds.Elements ws vs e = made_ok (AreValuesAgain item_kinds.Elements) (each value ws) values.List vs e one
  where
    one : (xs : List Val) → each value ws ≡ Ok xs → AreValuesAgain item_kinds.Elements (values.List xs)
    one xs is =
        let r = each-again value val_text value-again ws xs is in
        listed item_kinds.Elements (values.List xs) (record { words = r.words; again = ap (λ x. x >>= λ ys. Ok (values.List ys)) r.again }) (each-low value val_text value-low ws xs is)
items-again item_kinds.Pairs ws vs e = made_ok (AreValuesAgain item_kinds.Pairs) (each pair ws) values.Pairs vs e one
  where
    one : (xs : List (Val × Val)) → each pair ws ≡ Ok xs → AreValuesAgain item_kinds.Pairs (values.Pairs xs)
    one xs is =
        let r = each-again pair pair_word pair-again ws xs is in
        listed item_kinds.Pairs (values.Pairs xs) (record { words = r.words; again = ap (λ x. x >>= λ ys. Ok (values.Pairs ys)) r.again }) (each-low pair pair_word pair-low ws xs is)

-- ---- sequences

sequence_is : (first : ℤ) (count : ℕ) (vs : Values) → sequence first count ≡ Ok vs → values.Seq first count ≡ vs
sequence_is first count vs e = by_test (int_le (first +ℤ pos count) (pos (2 ^ 63))) e
  where
    by_test : (t : Bool) → cond t (Ok (values.Seq first count)) (Err Value) ≡ Ok vs → values.Seq first count ≡ vs
    by_test true g = cc
    by_test false g = absurd cc

seq-again : (item : ItemKind) (ws : Words) (vs : Values) → seq_words ws ≡ Ok vs → AreValuesAgain item vs
seq-again item [] vs e = absurd cc
seq-again item (a ∷ []) vs e = absurd cc
seq-again item (a ∷ n ∷ []) vs e =
    let b = bind_ok (integer a ⊗ number n) (λ p. sequence p.0 p.1) vs e in
    let c = both_ok (integer a) (number n) b.0 b.1 in
    let first = integer-again a b.0.0 c.0 in
    let count = number-again n b.0.1 c.1 in
    let same : values.Seq b.0.0 b.0.1 ≡ vs = sequence_is b.0.0 b.0.1 vs b.2 in
    let again : values_of item (values_words (values.Seq b.0.0 b.0.1)) ≡ Ok (values.Seq b.0.0 b.0.1) =
    ap (λ r. r >>= λ p. sequence p.0 p.1) (both (integer (signed_decimal b.0.0)) (number (decimal b.0.1)) b.0 first.again count.again) ∙ b.2 ∙ ap Ok (sym same) in
    subst (AreValuesAgain item) same (record { read = record { words = (key_word (bytes "seq") refl, (first.word, (count.word, tt))); again = again }; other = refl })
seq-again item (a ∷ n ∷ w ∷ ws) vs e = absurd cc

values_of-again : (item : ItemKind) (ws : Words) (vs : Values) → values_of item ws ≡ Ok vs → AreValuesAgain item vs
values_of-again item [] vs e = items-again item [] vs e
values_of-again item (w ∷ ws) vs e = by_test (bytes_eq w (bytes "seq")) e
  where
    by_test : (t : Bool) → cond t (seq_words ws) (items item (w ∷ ws)) ≡ Ok vs → AreValuesAgain item vs
    by_test true g = seq-again item ws vs g
    by_test false g = items-again item (w ∷ ws) vs g

-- ---- sources

-- a line on a cell names no local collection
abbrev pub from_in : Scope → Option Word → Option Word
from_in scopes.Cell from = None
from_in scopes.Local from = from

abbrev pub written_source : Scope → Source → Words
written_source scope s = source_words s.values (from_in scope s.from)

as_values : (scope : Scope) (item : ItemKind) (ws : Words) → begin_from ws ≡ false → source_of scope item ws ≡ source_in_line item ws
as_values scope item [] e = refl
as_values scope item (w ∷ ws) e = rw e refl

abbrev from_line : Values → Source
from_line vs = record { values = vs; from = None }

no_name : (scope : Scope) (vs : Values) → written_source scope (from_line vs) ≡ values_words vs
no_name scopes.Cell vs = refl
no_name scopes.Local vs = refl

in_line : (scope : Scope) (item : ItemKind) (ws : Words) (s : Source) → source_in_line item ws ≡ Ok s → AreReadAgain (source_of scope item) (written_source scope) s
in_line scope item ws s e = made_ok (AreReadAgain (source_of scope item) (written_source scope)) (values_of item ws) from_line s e one
  where
    one : (vs : Values) → values_of item ws ≡ Ok vs → AreReadAgain (source_of scope item) (written_source scope) (from_line vs)
    one vs is =
        let v = values_of-again item ws vs is in
        record {
          words = subst AreWords (sym (no_name scope vs)) v.read.words;
          again = ap (source_of scope item) (no_name scope vs) ∙ as_values scope item (values_words vs) v.other ∙ ap (λ x. x >>= λ us. Ok (from_line us)) v.read.again;
        }

abbrev from_name : Word → Source
from_name n = record { values = values.List []; from = Some n }

by_name : (scope : Scope) (item : ItemKind) (ws : Words) (s : Source) → source_from scope ws ≡ Ok s → AreReadAgain (source_of scope item) (written_source scope) s
by_name scopes.Local item (x ∷ []) s e = made_ok (AreReadAgain (source_of scopes.Local item) (written_source scopes.Local)) (local_name x) from_name s e one
  where
    one : (n : Word) → local_name x ≡ Ok n → AreReadAgain (source_of scopes.Local item) (written_source scopes.Local) (from_name n)
    one n is =
        let r = local_name-again x n is in
        record { words = (key_word (bytes "from") refl, (r.word, tt)); again = ap (λ y. y >>= λ m. Ok (from_name m)) r.again }
by_name _ item _ s e = absurd cc

pub source_of-again : (scope : Scope) (item : ItemKind) → ReadsAgain (source_of scope item) (written_source scope)
source_of-again scope item [] s e = in_line scope item [] s e
source_of-again scope item (w ∷ ws) s e = by_test (bytes_eq w (bytes "from")) e
  where
    by_test : (t : Bool) → cond t (source_from scope ws) (source_in_line item (w ∷ ws)) ≡ Ok s → AreReadAgain (source_of scope item) (written_source scope) s
    by_test true g = by_name scope item ws s g
    by_test false g = in_line scope item (w ∷ ws) s g
