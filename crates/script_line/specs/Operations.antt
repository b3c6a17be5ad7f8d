-- The changing operations, each with its word and its arguments.
use Rattle.std.specs.Prelude.{ℕ, List, [], ◌∷◌, None, Result, Ok, Err}
use Rattle.std.specs.Prelude.{codes as bytes}
use Rattle.plain_model.specs.declared.plain.Values.{Values}
use Rattle.plain_model.specs.declared.commands.PlainOp.{PlainOp}
use Rattle.plain_model.specs.declared.commands.PlainOp.TheVariants as ops
use Rattle.script_line.specs.declared.codes.Code.{Code}
use Rattle.script_line.specs.declared.codes.Code.TheVariants.{Word}
use Rattle.script_line.specs.declared.operations.OpWord.{OpWord}
use Rattle.script_line.specs.declared.operations.OpWord.TheVariants as op_words
use Rattle.script_line.specs.declared.operations.OpWithSource.{OpWithSource}
use Rattle.plain_model.specs.declared.kinds.ItemKind.TheVariants.{Elements, Pairs}
use Rattle.script_line.specs.declared.sources.Scope.{Scope}
use Rattle.script_line.specs.declared.sources.Source.{Source}
use Rattle.script_line.specs.Codes.{◌>>=◌}
use Rattle.script_line.specs.Table.{entry}
use Rattle.script_line.specs.Values.{value, number}
use Rattle.script_line.specs.Comparers.{order, test_word, test_of}
use Rattle.script_line.specs.Sources.{source_of}
use Rattle.script_line.specs.Arguments.{no_word, one, two, one_and_rest}

-- the words: another one is unknown
abbrev pub op_word : List ℕ → Result OpWord Code
op_word = entry (
    (bytes "add", op_words.Add) ∷
    (bytes "addrange", op_words.AddRange) ∷
    (bytes "insert", op_words.Insert) ∷
    (bytes "insertrange", op_words.InsertRange) ∷
    (bytes "removeat", op_words.RemoveAt) ∷
    (bytes "removerange", op_words.RemoveRange) ∷
    (bytes "remove", op_words.Remove) ∷
    (bytes "removeall", op_words.RemoveAll) ∷
    (bytes "replace", op_words.Replace) ∷
    (bytes "setitem", op_words.SetItem) ∷
    (bytes "getrange", op_words.GetRange) ∷
    (bytes "reverse", op_words.Reverse) ∷
    (bytes "sort", op_words.Sort) ∷
    (bytes "union", op_words.Union) ∷
    (bytes "intersect", op_words.Intersect) ∷
    (bytes "except", op_words.Except) ∷
    (bytes "symexcept", op_words.SymExcept) ∷
    (bytes "addpair", op_words.AddPair) ∷
    (bytes "addpairs", op_words.AddPairs) ∷
    (bytes "setpair", op_words.SetPair) ∷
    (bytes "setpairs", op_words.SetPairs) ∷
    (bytes "removekey", op_words.RemoveKey) ∷
    (bytes "removekeys", op_words.RemoveKeys) ∷
    (bytes "push", op_words.Push) ∷
    (bytes "pop", op_words.Pop) ∷
    (bytes "enqueue", op_words.Enqueue) ∷
    (bytes "dequeue", op_words.Dequeue) ∷
    (bytes "clear", op_words.Clear) ∷
    [])

-- ---- a row for each operation: those with so many words,

abbrev pub plain_op : OpWord → List (List ℕ) → Result PlainOp Code
plain_op op_words.Add ws = one value ws >>= λ v. Ok (ops.Add v)
plain_op op_words.Insert ws = two number value ws >>= λ (i, v). Ok (ops.Insert i v)
plain_op op_words.RemoveAt ws = one number ws >>= λ i. Ok (ops.RemoveAt i)
plain_op op_words.RemoveRange ws = two number number ws >>= λ (i, k). Ok (ops.RemoveRange i k)
plain_op op_words.Remove ws = one value ws >>= λ v. Ok (ops.Remove v)
plain_op op_words.RemoveAll ws = two test_word value ws >>= λ (t, v). Ok (ops.RemoveAll (test_of t v))
plain_op op_words.Replace ws = two value value ws >>= λ (u, v). Ok (ops.Replace u v)
plain_op op_words.SetItem ws = two number value ws >>= λ (i, v). Ok (ops.SetItem i v)
plain_op op_words.GetRange ws = two number number ws >>= λ (i, k). Ok (ops.GetRange i k)
plain_op op_words.Reverse ws = no_word ws >>= λ u. Ok ops.Reverse
plain_op op_words.Sort ws = one order ws >>= λ o. Ok (ops.Sort o)
plain_op op_words.AddPair ws = two value value ws >>= λ (k, v). Ok (ops.AddPair k v)
plain_op op_words.SetPair ws = two value value ws >>= λ (k, v). Ok (ops.SetPair k v)
plain_op op_words.RemoveKey ws = one value ws >>= λ k. Ok (ops.RemoveKey k)
plain_op op_words.Push ws = one value ws >>= λ v. Ok (ops.Push v)
plain_op op_words.Pop ws = no_word ws >>= λ u. Ok ops.Pop
plain_op op_words.Enqueue ws = one value ws >>= λ v. Ok (ops.Enqueue v)
plain_op op_words.Dequeue ws = no_word ws >>= λ u. Ok ops.Dequeue
plain_op op_words.Clear ws = no_word ws >>= λ u. Ok ops.Clear
plain_op word ws = Err Word

-- and those with values to the end of the line

abbrev pub op_on : (Values → PlainOp) → Source → OpWithSource
op_on make s = record { op = make s.values; from = s.from }

abbrev pub op_of_words : Scope → OpWord → List (List ℕ) → Result OpWithSource Code
op_of_words scope op_words.AddRange ws = source_of scope Elements ws >>= λ s. Ok (op_on ops.AddRange s)
op_of_words scope op_words.Union ws = source_of scope Elements ws >>= λ s. Ok (op_on ops.Union s)
op_of_words scope op_words.Intersect ws = source_of scope Elements ws >>= λ s. Ok (op_on ops.Intersect s)
op_of_words scope op_words.Except ws = source_of scope Elements ws >>= λ s. Ok (op_on ops.Except s)
op_of_words scope op_words.SymExcept ws = source_of scope Elements ws >>= λ s. Ok (op_on ops.SymExcept s)
op_of_words scope op_words.AddPairs ws = source_of scope Pairs ws >>= λ s. Ok (op_on ops.AddPairs s)
op_of_words scope op_words.SetPairs ws = source_of scope Pairs ws >>= λ s. Ok (op_on ops.SetPairs s)
op_of_words scope op_words.RemoveKeys ws = source_of scope Elements ws >>= λ s. Ok (op_on ops.RemoveKeys s)
op_of_words scope op_words.InsertRange ws =
    one_and_rest number (source_of scope Elements) ws >>= λ (i, s). Ok (op_on (ops.InsertRange i) s)
op_of_words scope word ws = plain_op word ws >>= λ p. Ok (record { op = p; from = None })

-- an operation, with its word
unfoldable pub op : Scope → List (List ℕ) → Result OpWithSource Code
op scope [] = Err Word
op scope (word ∷ ws) = op_word word >>= λ o. op_of_words scope o ws
