-- The changing operations.
use Rattle.std.proofs.Common.{◌≡◌, true, [], ◌∷◌, None, Result, Ok, refl}
use Rattle.std.specs.Prelude.{codes as bytes}
use Rattle.std.specs.Fmt.{decimal}
use Rattle.imm_base.specs.declared.val.Val.{Val}
use Rattle.imm_base.specs.Spell.{val_text, order_word, test_words}
use Rattle.plain_model.specs.declared.kinds.ItemKind.{ItemKind}
use Rattle.plain_model.specs.declared.kinds.ItemKind.TheVariants.{Elements, Pairs}
use Rattle.plain_model.specs.declared.plain.Values.{Values}
use Rattle.plain_model.specs.declared.commands.PlainOp.{PlainOp}
use Rattle.plain_model.specs.declared.commands.PlainOp.TheVariants as ops
use Rattle.plain_model.specs.Text.{op_words}
use Rattle.script_line.specs.declared.codes.Code.{Code}
use Rattle.script_line.specs.declared.comparers.TestWord.{TestWord}
use Rattle.script_line.specs.declared.comparers.TestWord.TheVariants as tests
use Rattle.script_line.specs.declared.operations.OpWord.{OpWord}
use Rattle.script_line.specs.declared.operations.OpWord.TheVariants as op_names
use Rattle.script_line.specs.declared.operations.OpWithSource.{OpWithSource}
use Rattle.script_line.specs.declared.sources.Scope.{Scope}
use Rattle.script_line.specs.declared.sources.Source.{Source}
use Rattle.script_line.specs.Codes.{◌>>=◌}
use Rattle.script_line.specs.Values.{value, number}
use Rattle.script_line.specs.Comparers.{order, test_word, test_of}
use Rattle.script_line.specs.Arguments.{no_word, one, two, one_and_rest}
use Rattle.script_line.specs.Sources.{source_of}
use Rattle.script_line.specs.Operations.{op_word, op_on, op_of_words, op}
use Rattle.script_line.proofs.Judgements.{bind_ok}
use Rattle.script_line.proofs.WrittenLetters.{is_key}
use Rattle.script_line.proofs.ReadAgain.{Word, Words, AreReadAgain, ReadsAgain, no_word-again, one-again, two-again, one_and_rest-again, row, row_in_two}
use Rattle.script_line.proofs.WrittenValues.{value-again, number-again}
use Rattle.script_line.proofs.WrittenSources.{from_in, written_source, source_of-again}
use Rattle.script_line.proofs.WrittenContents.{order-again, written_test, test_word-again}

abbrev pub written_op : Scope → OpWithSource → Words
written_op scope p = op_words p.op (from_in scope p.from)

abbrev in_line : PlainOp → OpWithSource
in_line p = record { op = p; from = None }

-- the row of an operation with so many words
module _ (scope : Scope) {A : Type 0} (word : Word) (key : is_key word ≡ true) (read : Words → Result A Code) (behind : A → Words) (reads : ReadsAgain read behind) (make : A → PlainOp)
    (said : (a : A) → op_words (make a) (from_in scope None) ≡ word ∷ behind a)
  where
    plain_row : ((ws : Words) → op scope (word ∷ ws) ≡ ((read ws >>= λ a. Ok (make a)) >>= λ p. Ok (in_line p))) → (ws : Words) (p : OpWithSource) → ((read ws >>= λ a. Ok (make a)) >>= λ p. Ok (in_line p)) ≡ Ok p
        → AreReadAgain (op scope) (written_op scope) p
    plain_row = row_in_two (op scope) (written_op scope) word key read behind reads make in_line said

-- the row of one with values to the end of the line
module _ (scope : Scope) (word : Word) (key : is_key word ≡ true) (item : ItemKind) (make : Values → PlainOp) (said : (s : Source) → op_words (make s.values) (from_in scope s.from) ≡ word ∷ written_source scope s) where
  source_row : ((ws : Words) → op scope (word ∷ ws) ≡ (source_of scope item ws >>= λ s. Ok (op_on make s))) → (ws : Words) (p : OpWithSource) → (source_of scope item ws >>= λ s. Ok (op_on make s)) ≡ Ok p
      → AreReadAgain (op scope) (written_op scope) p
  source_row = row (op scope) (written_op scope) word key (source_of scope item) (written_source scope) (source_of-again scope item) (op_on make) said

-- a test as it is written
test_said : (t : TestWord) (v : Val) → bytes "removeall" ∷ test_words (test_of t v) ≡ bytes "removeall" ∷ written_test t ∷ val_text v ∷ []
test_said tests.Is v = refl
test_said tests.Below v = refl
test_said tests.Above v = refl

op_of_words-again : (scope : Scope) (o : OpWord) (ws : Words) (p : OpWithSource) → op_of_words scope o ws ≡ Ok p → AreReadAgain (op scope) (written_op scope) p
unfolding op
op_of_words-again scope op_names.AddRange ws p e = source_row scope (bytes "addrange") refl Elements ops.AddRange (λ s. refl) (λ us. refl) ws p e
op_of_words-again scope op_names.Union ws p e = source_row scope (bytes "union") refl Elements ops.Union (λ s. refl) (λ us. refl) ws p e
op_of_words-again scope op_names.Intersect ws p e = source_row scope (bytes "intersect") refl Elements ops.Intersect (λ s. refl) (λ us. refl) ws p e
op_of_words-again scope op_names.Except ws p e = source_row scope (bytes "except") refl Elements ops.Except (λ s. refl) (λ us. refl) ws p e
op_of_words-again scope op_names.SymExcept ws p e = source_row scope (bytes "symexcept") refl Elements ops.SymExcept (λ s. refl) (λ us. refl) ws p e
op_of_words-again scope op_names.AddPairs ws p e = source_row scope (bytes "addpairs") refl Pairs ops.AddPairs (λ s. refl) (λ us. refl) ws p e
op_of_words-again scope op_names.SetPairs ws p e = source_row scope (bytes "setpairs") refl Pairs ops.SetPairs (λ s. refl) (λ us. refl) ws p e
op_of_words-again scope op_names.RemoveKeys ws p e = source_row scope (bytes "removekeys") refl Elements ops.RemoveKeys (λ s. refl) (λ us. refl) ws p e
op_of_words-again scope op_names.InsertRange ws p e =
    row (op scope) (written_op scope) (bytes "insertrange") refl (one_and_rest number (source_of scope Elements)) (λ q. decimal q.0 ∷ written_source scope q.1) (one_and_rest-again number decimal number-again (source_of scope Elements) (written_source scope) (source_of-again scope Elements))
    (λ q. op_on (ops.InsertRange q.0) q.1) (λ q. refl) (λ us. refl) ws p e
op_of_words-again scope op_names.Add ws p e = plain_row scope (bytes "add") refl (one value) (λ v. val_text v ∷ []) (one-again value val_text value-again) ops.Add (λ a. refl) (λ us. refl) ws p e
op_of_words-again scope op_names.Insert ws p e = plain_row scope (bytes "insert") refl (two number value) (λ p. decimal p.0 ∷ val_text p.1 ∷ []) (two-again number decimal number-again value val_text value-again) (λ p. ops.Insert p.0 p.1) (λ a. refl) (λ us. refl) ws p e
op_of_words-again scope op_names.RemoveAt ws p e = plain_row scope (bytes "removeat") refl (one number) (λ i. decimal i ∷ []) (one-again number decimal number-again) ops.RemoveAt (λ a. refl) (λ us. refl) ws p e
op_of_words-again scope op_names.RemoveRange ws p e = plain_row scope (bytes "removerange") refl (two number number) (λ p. decimal p.0 ∷ decimal p.1 ∷ []) (two-again number decimal number-again number decimal number-again) (λ p. ops.RemoveRange p.0 p.1) (λ a. refl) (λ us. refl) ws p e
op_of_words-again scope op_names.Remove ws p e = plain_row scope (bytes "remove") refl (one value) (λ v. val_text v ∷ []) (one-again value val_text value-again) ops.Remove (λ a. refl) (λ us. refl) ws p e
op_of_words-again scope op_names.RemoveAll ws p e = plain_row scope (bytes "removeall") refl (two test_word value) (λ p. written_test p.0 ∷ val_text p.1 ∷ []) (two-again test_word written_test test_word-again value val_text value-again) (λ p. ops.RemoveAll (test_of p.0 p.1)) (λ q. test_said q.0 q.1) (λ us. refl) ws p e
op_of_words-again scope op_names.Replace ws p e = plain_row scope (bytes "replace") refl (two value value) (λ p. val_text p.0 ∷ val_text p.1 ∷ []) (two-again value val_text value-again value val_text value-again) (λ p. ops.Replace p.0 p.1) (λ a. refl) (λ us. refl) ws p e
op_of_words-again scope op_names.SetItem ws p e = plain_row scope (bytes "setitem") refl (two number value) (λ p. decimal p.0 ∷ val_text p.1 ∷ []) (two-again number decimal number-again value val_text value-again) (λ p. ops.SetItem p.0 p.1) (λ a. refl) (λ us. refl) ws p e
op_of_words-again scope op_names.GetRange ws p e = plain_row scope (bytes "getrange") refl (two number number) (λ p. decimal p.0 ∷ decimal p.1 ∷ []) (two-again number decimal number-again number decimal number-again) (λ p. ops.GetRange p.0 p.1) (λ a. refl) (λ us. refl) ws p e
op_of_words-again scope op_names.Reverse ws p e = plain_row scope (bytes "reverse") refl no_word (λ u. []) no_word-again (λ u. ops.Reverse) (λ a. refl) (λ us. refl) ws p e
op_of_words-again scope op_names.Sort ws p e = plain_row scope (bytes "sort") refl (one order) (λ o. order_word o ∷ []) (one-again order order_word order-again) ops.Sort (λ a. refl) (λ us. refl) ws p e
op_of_words-again scope op_names.AddPair ws p e = plain_row scope (bytes "addpair") refl (two value value) (λ p. val_text p.0 ∷ val_text p.1 ∷ []) (two-again value val_text value-again value val_text value-again) (λ p. ops.AddPair p.0 p.1) (λ a. refl) (λ us. refl) ws p e
op_of_words-again scope op_names.SetPair ws p e = plain_row scope (bytes "setpair") refl (two value value) (λ p. val_text p.0 ∷ val_text p.1 ∷ []) (two-again value val_text value-again value val_text value-again) (λ p. ops.SetPair p.0 p.1) (λ a. refl) (λ us. refl) ws p e
op_of_words-again scope op_names.RemoveKey ws p e = plain_row scope (bytes "removekey") refl (one value) (λ v. val_text v ∷ []) (one-again value val_text value-again) ops.RemoveKey (λ a. refl) (λ us. refl) ws p e
op_of_words-again scope op_names.Push ws p e = plain_row scope (bytes "push") refl (one value) (λ v. val_text v ∷ []) (one-again value val_text value-again) ops.Push (λ a. refl) (λ us. refl) ws p e
op_of_words-again scope op_names.Pop ws p e = plain_row scope (bytes "pop") refl no_word (λ u. []) no_word-again (λ u. ops.Pop) (λ a. refl) (λ us. refl) ws p e
op_of_words-again scope op_names.Enqueue ws p e = plain_row scope (bytes "enqueue") refl (one value) (λ v. val_text v ∷ []) (one-again value val_text value-again) ops.Enqueue (λ a. refl) (λ us. refl) ws p e
op_of_words-again scope op_names.Dequeue ws p e = plain_row scope (bytes "dequeue") refl no_word (λ u. []) no_word-again (λ u. ops.Dequeue) (λ a. refl) (λ us. refl) ws p e
op_of_words-again scope op_names.Clear ws p e = plain_row scope (bytes "clear") refl no_word (λ u. []) no_word-again (λ u. ops.Clear) (λ a. refl) (λ us. refl) ws p e

pub op-again : (scope : Scope) → ReadsAgain (op scope) (written_op scope)
unfolding op
op-again scope [] p e = absurd cc
op-again scope (w ∷ ws) p e = let b = bind_ok (op_word w) (λ o. op_of_words scope o ws) p e in op_of_words-again scope b.0 ws p b.2
