-- Words that stand for comparers and tests.
use Rattle.std.specs.Prelude.{ℕ, List, [], ◌∷◌, Result}
use Rattle.std.specs.Prelude.{codes as bytes}
use Rattle.imm_base.specs.declared.val.Val.{Val}
use Rattle.imm_base.specs.declared.comparers.ValEq.{ValEq}
use Rattle.imm_base.specs.declared.comparers.ValEq.TheVariants as equalities
use Rattle.imm_base.specs.declared.comparers.ValOrder.{ValOrder}
use Rattle.imm_base.specs.declared.comparers.ValOrder.TheVariants as orders
use Rattle.imm_base.specs.declared.comparers.ValTest.{ValTest}
use Rattle.imm_base.specs.declared.comparers.ValTest.TheVariants as tests
use Rattle.plain_model.specs.declared.plain.Comparer.{Comparer}
use Rattle.plain_model.specs.declared.plain.Comparer.TheVariants as comparers
use Rattle.script_line.specs.declared.codes.Code.{Code}
use Rattle.script_line.specs.declared.comparers.TestWord.{TestWord}
use Rattle.script_line.specs.declared.comparers.TestWord.TheVariants as test_words
use Rattle.script_line.specs.Table.{entry}

abbrev pub order : List ℕ → Result ValOrder Code
order = entry (
    (bytes "ordinal", orders.Ordinal) ∷
    (bytes "reverse", orders.Reverse) ∷
    (bytes "nocase", orders.NoCase) ∷
    [])

abbrev pub equality : List ℕ → Result ValEq Code
equality = entry (
    (bytes "ordinal", equalities.Ordinal) ∷
    (bytes "nocase", equalities.NoCase) ∷
    (bytes "one", equalities.One) ∷
    [])

-- an order or an equality
unfoldable pub comparer : List ℕ → Result Comparer Code
comparer = entry (
    (bytes "ordinal", comparers.Ordinal) ∷
    (bytes "reverse", comparers.Reverse) ∷
    (bytes "nocase", comparers.NoCase) ∷
    (bytes "one", comparers.One) ∷
    [])

abbrev pub test_word : List ℕ → Result TestWord Code
test_word = entry (
    (bytes "is", test_words.Is) ∷
    (bytes "below", test_words.Below) ∷
    (bytes "above", test_words.Above) ∷
    [])

abbrev pub test_of : TestWord → Val → ValTest
test_of test_words.Is v = tests.Is v
test_of test_words.Below v = tests.Below v
test_of test_words.Above v = tests.Above v
