-- Words that stand for values and numbers.
use Rattle.std.specs.Prelude.{ℕ, ◌+◌, ◌-◌, List, [], ◌∷◌, length, take, drop, slice_index, Bool, false, not, ◌&&◌, nat_le, ◌==◌, Option, Some, None, Result, Err, if◌then◌else◌, ℤ}
use Rattle.std.specs.List.{list_all}
use Rattle.std.specs.Option.{option_map}
use Rattle.imm_base.specs.declared.val.Val.{Val}
use Rattle.imm_base.specs.declared.val.Val.TheVariants as vals
use Rattle.imm_base.specs.Text.{is_plain_byte}
use Rattle.script_line.specs.declared.codes.Code.{Code}
use Rattle.script_line.specs.declared.codes.Code.TheVariants as codes
use Rattle.script_line.specs.Codes.{◌⊗◌, some_or}
use Rattle.script_line.specs.Words.{quoted_after}
use Rattle.script_line.specs.Numerals.{number_of, integer_of}

-- at most 24 bytes, from the space to the tilde, without the quote and the backslash
abbrev pub is_text : List ℕ → Bool
is_text text = nat_le (length text) 24 && list_all is_plain_byte text

abbrev pub text_of : List ℕ → Option (List ℕ)
text_of text = if is_text text then Some text else None

-- the text before a closing quote
abbrev pub quoted_text : List ℕ → Option (List ℕ)
quoted_text rest = if slice_index rest (length rest - 1) == 34 then text_of (take (length rest - 1) rest) else None

-- an integer, or a text in quotes
abbrev pub value_of : List ℕ → Option Val
value_of [] = None
value_of (b ∷ bs) = if b == 34 then option_map vals.Text (quoted_text bs) else option_map vals.Int (integer_of (b ∷ bs))

abbrev pub value : List ℕ → Result Val Code
value word = some_or codes.Value (value_of word)

-- the index of the first equals sign that stands in no pair of quotes
abbrev pub equals_sign : Bool → List ℕ → Option ℕ
equals_sign quoted [] = None
equals_sign quoted (b ∷ bs) =
    if b == 61 && not quoted then Some 0
    else option_map (λ i. i + 1) (equals_sign (quoted_after quoted b) bs)

abbrev pub pair_at : List ℕ → Option ℕ → Result (Val × Val) Code
pair_at word None = Err codes.Value
pair_at word (Some i) = value (take i word) ⊗ value (drop (i + 1) word)

-- a key, an equals sign and a value, without spaces
abbrev pub pair : List ℕ → Result (Val × Val) Code
pair word = pair_at word (equals_sign false word)

abbrev pub integer : List ℕ → Result ℤ Code
integer word = some_or codes.Value (integer_of word)

-- an index or a count
abbrev pub number : List ℕ → Result ℕ Code
number word = some_or codes.Value (number_of word)
