-- Comparers, tests and kinds, with the values of a collection.
use Rattle.std.proofs.Common.{◌≡◌, List, [], ◌∷◌, ◌++◌, Ok, refl}
use Rattle.std.specs.Prelude.{codes as bytes}
use Rattle.imm_base.specs.declared.comparers.ValEq.TheVariants as equalities
use Rattle.imm_base.specs.declared.comparers.ValOrder.TheVariants as orders
use Rattle.imm_base.specs.Spell.{order_word, eq_word}
use Rattle.plain_model.specs.declared.kinds.ItemKind.TheVariants.{Elements, Pairs}
use Rattle.plain_model.specs.declared.plain.Kind.TheVariants as kinds
use Rattle.plain_model.specs.declared.plain.Comparer.TheVariants as comparers
use Rattle.plain_model.specs.Text.{comparer_word, kind_words}
use Rattle.script_line.specs.declared.comparers.TestWord.{TestWord}
use Rattle.script_line.specs.declared.comparers.TestWord.TheVariants as tests
use Rattle.script_line.specs.declared.contents.KindWord.{KindWord}
use Rattle.script_line.specs.declared.contents.KindWord.TheVariants as kind_names
use Rattle.script_line.specs.declared.contents.KindWithSource.{KindWithSource}
use Rattle.script_line.specs.declared.sources.Scope.{Scope}
use Rattle.script_line.specs.Comparers.{order, equality, comparer, test_word}
use Rattle.script_line.specs.Arguments.{one_and_rest}
use Rattle.script_line.specs.Sources.{source_of}
use Rattle.script_line.specs.Contents.{kind_word, contents_of, contents}
use Rattle.script_line.proofs.Judgements.{bind_ok}
use Rattle.script_line.proofs.WrittenLetters.{key_word}
use Rattle.script_line.proofs.ReadAgain.{Word, Words, ReadsWordAgain, AreReadAgain, ReadsAgain, one_and_rest-again, row}
use Rattle.script_line.proofs.WrittenSources.{written_source, source_of-again}

-- ---- comparers and tests

pub order-again : ReadsWordAgain order order_word
order-again w orders.Ordinal e = record { word = key_word (bytes "ordinal") refl; again = refl }
order-again w orders.Reverse e = record { word = key_word (bytes "reverse") refl; again = refl }
order-again w orders.NoCase e = record { word = key_word (bytes "nocase") refl; again = refl }

pub equality-again : ReadsWordAgain equality eq_word
equality-again w equalities.Ordinal e = record { word = key_word (bytes "ordinal") refl; again = refl }
equality-again w equalities.NoCase e = record { word = key_word (bytes "nocase") refl; again = refl }
equality-again w equalities.One e = record { word = key_word (bytes "one") refl; again = refl }

pub comparer-again : ReadsWordAgain comparer comparer_word
unfolding comparer
comparer-again w comparers.Ordinal e = record { word = key_word (bytes "ordinal") refl; again = refl }
comparer-again w comparers.Reverse e = record { word = key_word (bytes "reverse") refl; again = refl }
comparer-again w comparers.NoCase e = record { word = key_word (bytes "nocase") refl; again = refl }
comparer-again w comparers.One e = record { word = key_word (bytes "one") refl; again = refl }

abbrev pub written_test : TestWord → Word
written_test tests.Is = bytes "is"
written_test tests.Below = bytes "below"
written_test tests.Above = bytes "above"

pub test_word-again : ReadsWordAgain test_word written_test
test_word-again w tests.Is e = record { word = key_word (bytes "is") refl; again = refl }
test_word-again w tests.Below e = record { word = key_word (bytes "below") refl; again = refl }
test_word-again w tests.Above e = record { word = key_word (bytes "above") refl; again = refl }

-- ---- kinds

abbrev pub written_contents : Scope → KindWithSource → Words
written_contents scope d = kind_words d.kind ++ written_source scope d.source

contents_of-again : (scope : Scope) (k : KindWord) (ws : Words) (d : KindWithSource) → contents_of scope k ws ≡ Ok d → AreReadAgain (contents scope) (written_contents scope) d
unfolding contents
contents_of-again scope kind_names.List ws d e =
    row (contents scope) (written_contents scope) (bytes "list") refl (source_of scope Elements) (written_source scope) (source_of-again scope Elements) (λ s. record { kind = kinds.List; source = s }) (λ s. refl) (λ us. refl) ws d e
contents_of-again scope kind_names.Array ws d e =
    row (contents scope) (written_contents scope) (bytes "array") refl (source_of scope Elements) (written_source scope) (source_of-again scope Elements) (λ s. record { kind = kinds.Array; source = s }) (λ s. refl) (λ us. refl) ws d e
contents_of-again scope kind_names.Stack ws d e =
    row (contents scope) (written_contents scope) (bytes "stack") refl (source_of scope Elements) (written_source scope) (source_of-again scope Elements) (λ s. record { kind = kinds.Stack; source = s }) (λ s. refl) (λ us. refl) ws d e
contents_of-again scope kind_names.Queue ws d e =
    row (contents scope) (written_contents scope) (bytes "queue") refl (source_of scope Elements) (written_source scope) (source_of-again scope Elements) (λ s. record { kind = kinds.Queue; source = s }) (λ s. refl) (λ us. refl) ws d e
contents_of-again scope kind_names.SSet ws d e =
    row (contents scope) (written_contents scope) (bytes "sset") refl (one_and_rest order (source_of scope Elements)) (λ p. order_word p.0 ∷ written_source scope p.1) (one_and_rest-again order order_word order-again (source_of scope Elements) (written_source scope) (source_of-again scope Elements))
    (λ p. record { kind = kinds.SSet p.0; source = p.1 }) (λ p. refl) (λ us. refl) ws d e
contents_of-again scope kind_names.SMap ws d e =
    row (contents scope) (written_contents scope) (bytes "smap") refl (one_and_rest order (source_of scope Pairs)) (λ p. order_word p.0 ∷ written_source scope p.1) (one_and_rest-again order order_word order-again (source_of scope Pairs) (written_source scope) (source_of-again scope Pairs))
    (λ p. record { kind = kinds.SMap p.0; source = p.1 }) (λ p. refl) (λ us. refl) ws d e
contents_of-again scope kind_names.Dict ws d e =
    row (contents scope) (written_contents scope) (bytes "dict") refl (one_and_rest equality (source_of scope Pairs)) (λ p. eq_word p.0 ∷ written_source scope p.1) (one_and_rest-again equality eq_word equality-again (source_of scope Pairs) (written_source scope) (source_of-again scope Pairs))
    (λ p. record { kind = kinds.Dict p.0; source = p.1 }) (λ p. refl) (λ us. refl) ws d e
contents_of-again scope kind_names.HSet ws d e =
    row (contents scope) (written_contents scope) (bytes "hset") refl (one_and_rest equality (source_of scope Elements)) (λ p. eq_word p.0 ∷ written_source scope p.1) (one_and_rest-again equality eq_word equality-again (source_of scope Elements) (written_source scope) (source_of-again scope Elements))
    (λ p. record { kind = kinds.HSet p.0; source = p.1 }) (λ p. refl) (λ us. refl) ws d e

pub contents-again : (scope : Scope) → ReadsAgain (contents scope) (written_contents scope)
unfolding contents
contents-again scope [] d e = absurd cc
contents-again scope (w ∷ ws) d e = let b = bind_ok (kind_word w) (λ k. contents_of scope k ws) d e in contents_of-again scope b.0 ws d b.2
