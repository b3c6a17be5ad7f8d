-- A kind, and the values of a collection of it.
use Rattle.std.specs.Prelude.{ℕ, List, [], ◌∷◌, Result, Ok, Err}
use Rattle.std.specs.Prelude.{codes as bytes}
use Rattle.plain_model.specs.declared.plain.Kind.TheVariants as kinds
use Rattle.script_line.specs.declared.codes.Code.{Code}
use Rattle.script_line.specs.declared.codes.Code.TheVariants.{Word}
use Rattle.script_line.specs.declared.contents.KindWord.{KindWord}
use Rattle.script_line.specs.declared.contents.KindWord.TheVariants as kind_words
use Rattle.script_line.specs.declared.contents.KindWithSource.{KindWithSource}
use Rattle.plain_model.specs.declared.kinds.ItemKind.TheVariants.{Elements, Pairs}
use Rattle.script_line.specs.declared.sources.Scope.{Scope}
use Rattle.script_line.specs.Codes.{◌>>=◌}
use Rattle.script_line.specs.Table.{entry}
use Rattle.script_line.specs.Comparers.{order, equality}
use Rattle.script_line.specs.Sources.{source_of}
use Rattle.script_line.specs.Arguments.{one_and_rest}

-- the words: another one is unknown
abbrev pub kind_word : List ℕ → Result KindWord Code
kind_word = entry (
    (bytes "list", kind_words.List) ∷
    (bytes "array", kind_words.Array) ∷
    (bytes "stack", kind_words.Stack) ∷
    (bytes "queue", kind_words.Queue) ∷
    (bytes "sset", kind_words.SSet) ∷
    (bytes "smap", kind_words.SMap) ∷
    (bytes "dict", kind_words.Dict) ∷
    (bytes "hset", kind_words.HSet) ∷
    [])

-- a row for each kind, with the words that follow it
abbrev pub contents_of : Scope → KindWord → List (List ℕ) → Result KindWithSource Code
contents_of scope kind_words.List ws = source_of scope Elements ws >>= λ s. Ok (record { kind = kinds.List; source = s })
contents_of scope kind_words.Array ws = source_of scope Elements ws >>= λ s. Ok (record { kind = kinds.Array; source = s })
contents_of scope kind_words.Stack ws = source_of scope Elements ws >>= λ s. Ok (record { kind = kinds.Stack; source = s })
contents_of scope kind_words.Queue ws = source_of scope Elements ws >>= λ s. Ok (record { kind = kinds.Queue; source = s })
contents_of scope kind_words.SSet ws =
    one_and_rest order (source_of scope Elements) ws >>= λ (by, s). Ok (record { kind = kinds.SSet by; source = s })
contents_of scope kind_words.SMap ws =
    one_and_rest order (source_of scope Pairs) ws >>= λ (by, s). Ok (record { kind = kinds.SMap by; source = s })
contents_of scope kind_words.Dict ws =
    one_and_rest equality (source_of scope Pairs) ws >>= λ (by, s). Ok (record { kind = kinds.Dict by; source = s })
contents_of scope kind_words.HSet ws =
    one_and_rest equality (source_of scope Elements) ws >>= λ (by, s). Ok (record { kind = kinds.HSet by; source = s })

-- a kind, and the values of a collection of it
unfoldable pub contents : Scope → List (List ℕ) → Result KindWithSource Code
contents scope [] = Err Word
contents scope (word ∷ ws) = kind_word word >>= λ k. contents_of scope k ws
