-- The calls on a cell that have a word of their own, with their arguments.
use Rattle.std.specs.Prelude.{ℕ, List, [], ◌∷◌, Result, Ok, Err}
use Rattle.std.specs.Prelude.{codes as bytes}
use Rattle.plain_model.specs.declared.commands.Command.{Command}
use Rattle.plain_model.specs.declared.commands.Command.TheVariants as commands
use Rattle.plain_model.specs.declared.commands.Factory.{Factory}
use Rattle.plain_model.specs.declared.commands.Factory.TheVariants as factories
use Rattle.plain_model.specs.declared.commands.Transform.{Transform}
use Rattle.plain_model.specs.declared.commands.Transform.TheVariants as transforms
use Rattle.script_line.specs.declared.codes.Code.{Code}
use Rattle.script_line.specs.declared.codes.Code.TheVariants.{Word}
use Rattle.script_line.specs.declared.calls.CallWord.{CallWord}
use Rattle.script_line.specs.declared.calls.CallWord.TheVariants as call_words
use Rattle.script_line.specs.declared.calls.FactoryWord.{FactoryWord}
use Rattle.script_line.specs.declared.calls.FactoryWord.TheVariants as factory_names
use Rattle.script_line.specs.declared.calls.TransformWord.{TransformWord}
use Rattle.script_line.specs.declared.calls.TransformWord.TheVariants as transform_words
use Rattle.script_line.specs.Codes.{◌>>=◌}
use Rattle.script_line.specs.Table.{entry}
use Rattle.script_line.specs.Names.{cell_name}
use Rattle.script_line.specs.Values.{value, integer}
use Rattle.script_line.specs.Arguments.{one, two, one_and_rest}

-- ---- what becomes of a value

abbrev pub transform_word : List ℕ → Result TransformWord Code
transform_word = entry (
    (bytes "set", transform_words.Set) ∷
    (bytes "plus", transform_words.Plus) ∷
    (bytes "max", transform_words.Max) ∷
    [])

abbrev pub transform_of_words : TransformWord → List (List ℕ) → Result Transform Code
transform_of_words transform_words.Set ws = one value ws >>= λ v. Ok (transforms.Set v)
transform_of_words transform_words.Plus ws = one integer ws >>= λ i. Ok (transforms.Plus i)
transform_of_words transform_words.Max ws = one value ws >>= λ v. Ok (transforms.Max v)

unfoldable pub transform : List (List ℕ) → Result Transform Code
transform [] = Err Word
transform (word ∷ ws) = transform_word word >>= λ t. transform_of_words t ws

-- ---- how a value is made, and what becomes of the one that is there

abbrev pub factory_word : List ℕ → Result FactoryWord Code
factory_word = entry (
    (bytes "key", factory_names.Key) ∷
    (bytes "const", factory_names.Const) ∷
    [])

abbrev pub making_of_words : FactoryWord → List (List ℕ) → Result (Factory × Transform) Code
making_of_words factory_names.Key ws = transform ws >>= λ t. Ok (factories.Key, t)
making_of_words factory_names.Const ws = one_and_rest value transform ws >>= λ (v, t). Ok (factories.Const v, t)

unfoldable pub making : List (List ℕ) → Result (Factory × Transform) Code
making [] = Err Word
making (word ∷ ws) = factory_word word >>= λ f. making_of_words f ws

-- ---- a row for each call, with the words that follow its own

abbrev pub call_of_words : CallWord → List (List ℕ) → Result Command Code
call_of_words call_words.GetOrAdd ws = one_and_rest cell_name (two value value) ws >>= λ (c, p). Ok (commands.GetOrAdd c p.0 p.1)
call_of_words call_words.AddOrUpdate ws =
    one_and_rest cell_name (one_and_rest value (one_and_rest value transform)) ws
    >>= λ (c, p). Ok (commands.AddOrUpdate c p.0 p.1.0 p.1.1)
call_of_words call_words.TryAdd ws = one_and_rest cell_name (two value value) ws >>= λ (c, p). Ok (commands.TryAdd c p.0 p.1)
call_of_words call_words.TryUpdate ws =
    one_and_rest cell_name (one_and_rest value (two value value)) ws >>= λ (c, p). Ok (commands.TryUpdate c p.0 p.1.0 p.1.1)
call_of_words call_words.TryRemove ws = two cell_name value ws >>= λ (c, k). Ok (commands.TryRemove c k)
call_of_words call_words.Push ws = two cell_name value ws >>= λ (c, v). Ok (commands.Push c v)
call_of_words call_words.TryPop ws = one cell_name ws >>= λ c. Ok (commands.TryPop c)
call_of_words call_words.Enqueue ws = two cell_name value ws >>= λ (c, v). Ok (commands.Enqueue c v)
call_of_words call_words.TryDequeue ws = one cell_name ws >>= λ c. Ok (commands.TryDequeue c)
call_of_words call_words.AddOrUpdateMade ws =
    one_and_rest cell_name (one_and_rest value making) ws >>= λ (c, p). Ok (commands.AddOrUpdateMade c p.0 p.1.0 p.1.1)
