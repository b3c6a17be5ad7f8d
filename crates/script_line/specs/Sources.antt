-- The values at the end of a line, or the local collection that gives them.
use Rattle.std.specs.Prelude.{ℕ, ◌^◌, List, [], ◌∷◌, Some, None, Result, Ok, Err, if◌then◌else◌, ℤ, pos, ◌+ℤ◌, int_le}
use Rattle.std.specs.Prelude.{codes as bytes}
use Rattle.std.specs.Str.{bytes_eq}
use Rattle.plain_model.specs.declared.plain.Values.{Values}
use Rattle.plain_model.specs.declared.plain.Values.TheVariants as values
use Rattle.script_line.specs.declared.codes.Code.{Code}
use Rattle.script_line.specs.declared.codes.Code.TheVariants as codes
use Rattle.plain_model.specs.declared.kinds.ItemKind.{ItemKind}
use Rattle.plain_model.specs.declared.kinds.ItemKind.TheVariants as item_kinds
use Rattle.script_line.specs.declared.sources.Scope.{Scope}
use Rattle.script_line.specs.declared.sources.Scope.TheVariants as scopes
use Rattle.script_line.specs.declared.sources.Source.{Source}
use Rattle.script_line.specs.Codes.{◌>>=◌, ◌⊗◌}
use Rattle.script_line.specs.Values.{value, pair, integer, number}
use Rattle.script_line.specs.Names.{local_name}

-- each word read
abbrev pub each : {A : Type 0} → (List ℕ → Result A Code) → List (List ℕ) → Result (List A) Code
each read [] = Ok []
each read (word ∷ words) = read word >>= λ x. each read words >>= λ xs. Ok (x ∷ xs)

abbrev pub items : ItemKind → List (List ℕ) → Result Values Code
items item_kinds.Elements words = each value words >>= λ vs. Ok (values.List vs)
items item_kinds.Pairs words = each pair words >>= λ ps. Ok (values.Pairs ps)

-- so many integers from the first on, none of which passes 64 bits
abbrev pub sequence : ℤ → ℕ → Result Values Code
sequence first count =
    if int_le (first +ℤ pos count) (pos (2 ^ 63)) then Ok (values.Seq first count) else Err codes.Value

abbrev pub seq_words : List (List ℕ) → Result Values Code
seq_words (first ∷ count ∷ []) = (integer first ⊗ number count) >>= λ (f, n). sequence f n
seq_words words = Err codes.Word

-- values one after another, or `seq` with the first and how many
abbrev pub values_of : ItemKind → List (List ℕ) → Result Values Code
values_of item [] = items item []
values_of item (word ∷ words) =
    if bytes_eq word (bytes "seq") then seq_words words else items item (word ∷ words)

-- the values that the words themselves write
abbrev pub source_in_line : ItemKind → List (List ℕ) → Result Source Code
source_in_line item words = values_of item words >>= λ vs. Ok (record { values = vs; from = None })

-- a local collection gives the values, where no cell takes them
abbrev pub source_from : Scope → List (List ℕ) → Result Source Code
source_from scopes.Local (x ∷ []) = local_name x >>= λ n. Ok (record { values = values.List []; from = Some n })
source_from scope words = Err codes.Word

abbrev pub source_of : Scope → ItemKind → List (List ℕ) → Result Source Code
source_of scope item [] = source_in_line item []
source_of scope item (word ∷ words) =
    if bytes_eq word (bytes "from") then source_from scope words else source_in_line item (word ∷ words)
