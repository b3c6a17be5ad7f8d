-- The questions, each with its word and its arguments.
use Rattle.std.specs.Prelude.{ℕ, List, [], ◌∷◌, None, Result, Ok, Err}
use Rattle.std.specs.Prelude.{codes as bytes}
use Rattle.plain_model.specs.declared.plain.Values.{Values}
use Rattle.plain_model.specs.declared.commands.Query.{Query}
use Rattle.plain_model.specs.declared.commands.Query.TheVariants as queries
use Rattle.script_line.specs.declared.codes.Code.{Code}
use Rattle.script_line.specs.declared.codes.Code.TheVariants.{Word}
use Rattle.script_line.specs.declared.queries.QueryWord.{QueryWord}
use Rattle.script_line.specs.declared.queries.QueryWord.TheVariants as query_words
use Rattle.script_line.specs.declared.queries.QueryWithSource.{QueryWithSource}
use Rattle.plain_model.specs.declared.kinds.ItemKind.TheVariants.{Elements}
use Rattle.script_line.specs.declared.sources.Scope.TheVariants as scopes
use Rattle.script_line.specs.declared.sources.Source.{Source}
use Rattle.script_line.specs.Codes.{◌>>=◌}
use Rattle.script_line.specs.Table.{entry}
use Rattle.script_line.specs.Values.{value, number}
use Rattle.script_line.specs.Comparers.{order}
use Rattle.script_line.specs.Sources.{source_of}
use Rattle.script_line.specs.Arguments.{no_word, one, two}

-- the words: another one is unknown
abbrev pub query_word : List ℕ → Result QueryWord Code
query_word = entry (
    (bytes "count", query_words.Count) ∷
    (bytes "get", query_words.Get) ∷
    (bytes "indexof", query_words.IndexOf) ∷
    (bytes "lastindexof", query_words.LastIndexOf) ∷
    (bytes "search", query_words.Search) ∷
    (bytes "contains", query_words.Contains) ∷
    (bytes "actual", query_words.Actual) ∷
    (bytes "min", query_words.Min) ∷
    (bytes "max", query_words.Max) ∷
    (bytes "subset", query_words.Subset) ∷
    (bytes "superset", query_words.Superset) ∷
    (bytes "propersubset", query_words.ProperSubset) ∷
    (bytes "propersuperset", query_words.ProperSuperset) ∷
    (bytes "overlaps", query_words.Overlaps) ∷
    (bytes "setequals", query_words.SetEquals) ∷
    (bytes "lookup", query_words.Lookup) ∷
    (bytes "keyof", query_words.KeyOf) ∷
    (bytes "hasvalue", query_words.HasValue) ∷
    (bytes "keys", query_words.Keys) ∷
    (bytes "values", query_words.Values) ∷
    (bytes "peek", query_words.Peek) ∷
    (bytes "strategy", query_words.Strategy) ∷
    [])

-- ---- a row for each question: those with so many words,

abbrev pub plain_query : QueryWord → List (List ℕ) → Result Query Code
plain_query query_words.Count ws = no_word ws >>= λ u. Ok queries.Count
plain_query query_words.Get ws = one number ws >>= λ i. Ok (queries.Get i)
plain_query query_words.IndexOf ws = one value ws >>= λ v. Ok (queries.IndexOf v)
plain_query query_words.LastIndexOf ws = one value ws >>= λ v. Ok (queries.LastIndexOf v)
plain_query query_words.Search ws = two order value ws >>= λ (o, v). Ok (queries.Search o v)
plain_query query_words.Contains ws = one value ws >>= λ v. Ok (queries.Contains v)
plain_query query_words.Actual ws = one value ws >>= λ v. Ok (queries.Actual v)
plain_query query_words.Min ws = no_word ws >>= λ u. Ok queries.Min
plain_query query_words.Max ws = no_word ws >>= λ u. Ok queries.Max
plain_query query_words.Lookup ws = one value ws >>= λ k. Ok (queries.Lookup k)
plain_query query_words.KeyOf ws = one value ws >>= λ k. Ok (queries.KeyOf k)
plain_query query_words.HasValue ws = one value ws >>= λ v. Ok (queries.HasValue v)
plain_query query_words.Keys ws = no_word ws >>= λ u. Ok queries.Keys
plain_query query_words.Values ws = no_word ws >>= λ u. Ok queries.Values
plain_query query_words.Peek ws = no_word ws >>= λ u. Ok queries.Peek
plain_query query_words.Strategy ws = no_word ws >>= λ u. Ok queries.Strategy
plain_query word ws = Err Word

-- and those with values to the end of the line

abbrev pub query_on : (Values → Query) → Source → QueryWithSource
query_on make s = record { query = make s.values; from = s.from }

abbrev pub query_of_words : QueryWord → List (List ℕ) → Result QueryWithSource Code
query_of_words query_words.Subset ws = source_of scopes.Local Elements ws >>= λ s. Ok (query_on queries.Subset s)
query_of_words query_words.Superset ws = source_of scopes.Local Elements ws >>= λ s. Ok (query_on queries.Superset s)
query_of_words query_words.ProperSubset ws = source_of scopes.Local Elements ws >>= λ s. Ok (query_on queries.ProperSubset s)
query_of_words query_words.ProperSuperset ws = source_of scopes.Local Elements ws >>= λ s. Ok (query_on queries.ProperSuperset s)
query_of_words query_words.Overlaps ws = source_of scopes.Local Elements ws >>= λ s. Ok (query_on queries.Overlaps s)
query_of_words query_words.SetEquals ws = source_of scopes.Local Elements ws >>= λ s. Ok (query_on queries.SetEquals s)
query_of_words word ws = plain_query word ws >>= λ q. Ok (record { query = q; from = None })

-- a question, with its word
unfoldable pub query : List (List ℕ) → Result QueryWithSource Code
query [] = Err Word
query (word ∷ ws) = query_word word >>= λ q. query_of_words q ws
