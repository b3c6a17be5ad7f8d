-- The questions.
use Rattle.std.proofs.Common.{◌≡◌, true, [], ◌∷◌, None, Result, Ok, refl}
use Rattle.std.specs.Prelude.{codes as bytes}
use Rattle.std.specs.Fmt.{decimal}
use Rattle.imm_base.specs.Spell.{val_text, order_word}
use Rattle.plain_model.specs.declared.kinds.ItemKind.TheVariants.{Elements}
use Rattle.plain_model.specs.declared.plain.Values.{Values}
use Rattle.plain_model.specs.declared.commands.Query.{Query}
use Rattle.plain_model.specs.declared.commands.Query.TheVariants as queries
use Rattle.plain_model.specs.Text.{query_words}
use Rattle.script_line.specs.declared.codes.Code.{Code}
use Rattle.script_line.specs.declared.queries.QueryWord.{QueryWord}
use Rattle.script_line.specs.declared.queries.QueryWord.TheVariants as query_names
use Rattle.script_line.specs.declared.queries.QueryWithSource.{QueryWithSource}
use Rattle.script_line.specs.declared.sources.Scope.TheVariants.{Local}
use Rattle.script_line.specs.declared.sources.Source.{Source}
use Rattle.script_line.specs.Codes.{◌>>=◌}
use Rattle.script_line.specs.Values.{value, number}
use Rattle.script_line.specs.Comparers.{order}
use Rattle.script_line.specs.Arguments.{no_word, one, two}
use Rattle.script_line.specs.Sources.{source_of}
use Rattle.script_line.specs.Queries.{query_word, query_on, query_of_words, query}
use Rattle.script_line.proofs.Judgements.{bind_ok}
use Rattle.script_line.proofs.WrittenLetters.{is_key}
use Rattle.script_line.proofs.ReadAgain.{Word, Words, AreReadAgain, ReadsAgain, no_word-again, one-again, two-again, row, row_in_two}
use Rattle.script_line.proofs.WrittenValues.{value-again, number-again}
use Rattle.script_line.proofs.WrittenSources.{written_source, source_of-again}
use Rattle.script_line.proofs.WrittenContents.{order-again}

abbrev pub written_query : QueryWithSource → Words
written_query q = query_words q.query q.from

abbrev in_line : Query → QueryWithSource
in_line q = record { query = q; from = None }

-- the row of a question with so many words
module _ {A : Type 0} (word : Word) (key : is_key word ≡ true) (read : Words → Result A Code) (behind : A → Words) (reads : ReadsAgain read behind) (make : A → Query) (said : (a : A) → query_words (make a) None ≡ word ∷ behind a) where
  plain_row : ((ws : Words) → query (word ∷ ws) ≡ ((read ws >>= λ a. Ok (make a)) >>= λ q. Ok (in_line q))) → (ws : Words) (q : QueryWithSource) → ((read ws >>= λ a. Ok (make a)) >>= λ q. Ok (in_line q)) ≡ Ok q
      → AreReadAgain query written_query q
  plain_row = row_in_two query written_query word key read behind reads make in_line said

-- the row of one with values to the end of the line
module _ (word : Word) (key : is_key word ≡ true) (make : Values → Query) (said : (s : Source) → query_words (make s.values) s.from ≡ word ∷ written_source Local s) where
  source_row : ((ws : Words) → query (word ∷ ws) ≡ (source_of Local Elements ws >>= λ s. Ok (query_on make s))) → (ws : Words) (q : QueryWithSource) → (source_of Local Elements ws >>= λ s. Ok (query_on make s)) ≡ Ok q
      → AreReadAgain query written_query q
  source_row = row query written_query word key (source_of Local Elements) (written_source Local) (source_of-again Local Elements) (query_on make) said

query_of_words-again : (w : QueryWord) (ws : Words) (q : QueryWithSource) → query_of_words w ws ≡ Ok q → AreReadAgain query written_query q
unfolding query
query_of_words-again query_names.Subset ws q e = source_row (bytes "subset") refl queries.Subset (λ s. refl) (λ us. refl) ws q e
query_of_words-again query_names.Superset ws q e = source_row (bytes "superset") refl queries.Superset (λ s. refl) (λ us. refl) ws q e
query_of_words-again query_names.ProperSubset ws q e = source_row (bytes "propersubset") refl queries.ProperSubset (λ s. refl) (λ us. refl) ws q e
query_of_words-again query_names.ProperSuperset ws q e = source_row (bytes "propersuperset") refl queries.ProperSuperset (λ s. refl) (λ us. refl) ws q e
query_of_words-again query_names.Overlaps ws q e = source_row (bytes "overlaps") refl queries.Overlaps (λ s. refl) (λ us. refl) ws q e
query_of_words-again query_names.SetEquals ws q e = source_row (bytes "setequals") refl queries.SetEquals (λ s. refl) (λ us. refl) ws q e
query_of_words-again query_names.Count ws q e = plain_row (bytes "count") refl no_word (λ u. []) no_word-again (λ u. queries.Count) (λ a. refl) (λ us. refl) ws q e
query_of_words-again query_names.Get ws q e = plain_row (bytes "get") refl (one number) (λ i. decimal i ∷ []) (one-again number decimal number-again) queries.Get (λ a. refl) (λ us. refl) ws q e
query_of_words-again query_names.IndexOf ws q e = plain_row (bytes "indexof") refl (one value) (λ v. val_text v ∷ []) (one-again value val_text value-again) queries.IndexOf (λ a. refl) (λ us. refl) ws q e
query_of_words-again query_names.LastIndexOf ws q e = plain_row (bytes "lastindexof") refl (one value) (λ v. val_text v ∷ []) (one-again value val_text value-again) queries.LastIndexOf (λ a. refl) (λ us. refl) ws q e
query_of_words-again query_names.Search ws q e = plain_row (bytes "search") refl (two order value) (λ p. order_word p.0 ∷ val_text p.1 ∷ []) (two-again order order_word order-again value val_text value-again) (λ p. queries.Search p.0 p.1) (λ a. refl) (λ us. refl) ws q e
query_of_words-again query_names.Contains ws q e = plain_row (bytes "contains") refl (one value) (λ v. val_text v ∷ []) (one-again value val_text value-again) queries.Contains (λ a. refl) (λ us. refl) ws q e
query_of_words-again query_names.Actual ws q e = plain_row (bytes "actual") refl (one value) (λ v. val_text v ∷ []) (one-again value val_text value-again) queries.Actual (λ a. refl) (λ us. refl) ws q e
query_of_words-again query_names.Min ws q e = plain_row (bytes "min") refl no_word (λ u. []) no_word-again (λ u. queries.Min) (λ a. refl) (λ us. refl) ws q e
query_of_words-again query_names.Max ws q e = plain_row (bytes "max") refl no_word (λ u. []) no_word-again (λ u. queries.Max) (λ a. refl) (λ us. refl) ws q e
query_of_words-again query_names.Lookup ws q e = plain_row (bytes "lookup") refl (one value) (λ v. val_text v ∷ []) (one-again value val_text value-again) queries.Lookup (λ a. refl) (λ us. refl) ws q e
query_of_words-again query_names.KeyOf ws q e = plain_row (bytes "keyof") refl (one value) (λ v. val_text v ∷ []) (one-again value val_text value-again) queries.KeyOf (λ a. refl) (λ us. refl) ws q e
query_of_words-again query_names.HasValue ws q e = plain_row (bytes "hasvalue") refl (one value) (λ v. val_text v ∷ []) (one-again value val_text value-again) queries.HasValue (λ a. refl) (λ us. refl) ws q e
query_of_words-again query_names.Keys ws q e = plain_row (bytes "keys") refl no_word (λ u. []) no_word-again (λ u. queries.Keys) (λ a. refl) (λ us. refl) ws q e
query_of_words-again query_names.Values ws q e = plain_row (bytes "values") refl no_word (λ u. []) no_word-again (λ u. queries.Values) (λ a. refl) (λ us. refl) ws q e
query_of_words-again query_names.Peek ws q e = plain_row (bytes "peek") refl no_word (λ u. []) no_word-again (λ u. queries.Peek) (λ a. refl) (λ us. refl) ws q e
query_of_words-again query_names.Strategy ws q e = plain_row (bytes "strategy") refl no_word (λ u. []) no_word-again (λ u. queries.Strategy) (λ a. refl) (λ us. refl) ws q e

pub query-again : ReadsAgain query written_query
unfolding query
query-again [] q e = absurd cc
query-again (w ∷ ws) q e = let b = bind_ok (query_word w) (λ x. query_of_words x ws) q e in query_of_words-again b.0 ws q b.2
