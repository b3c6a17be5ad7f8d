-- The calls on a cell that have a word of their own.
use Rattle.std.proofs.Common.{◌≡◌, Bool, true, false, [], ◌∷◌, ◌++◌, Result, Ok, refl}
use Rattle.std.specs.Prelude.{codes as bytes}
use Rattle.std.specs.Fmt.{signed_decimal}
use Rattle.imm_base.specs.declared.val.Val.{Val}
use Rattle.imm_base.specs.Spell.{val_text}
use Rattle.plain_model.specs.declared.commands.Command.{Command}
use Rattle.plain_model.specs.declared.commands.Command.TheVariants as commands
use Rattle.plain_model.specs.declared.commands.Factory.{Factory}
use Rattle.plain_model.specs.declared.commands.Factory.TheVariants as factories
use Rattle.plain_model.specs.declared.commands.Transform.{Transform}
use Rattle.plain_model.specs.declared.commands.Transform.TheVariants as transforms
use Rattle.plain_model.specs.declared.report.Version.{Version}
use Rattle.plain_model.specs.declared.report.Version.TheVariants as versions
use Rattle.plain_model.specs.Text.{factory_words, transform_words}
use Rattle.script_line.specs.declared.codes.Code.{Code}
use Rattle.script_line.specs.declared.calls.CallWord.{CallWord}
use Rattle.script_line.specs.declared.calls.CallWord.TheVariants as call_words
use Rattle.script_line.specs.declared.calls.FactoryWord.{FactoryWord}
use Rattle.script_line.specs.declared.calls.FactoryWord.TheVariants as factory_names
use Rattle.script_line.specs.declared.calls.TransformWord.{TransformWord}
use Rattle.script_line.specs.declared.calls.TransformWord.TheVariants as transform_names
use Rattle.script_line.specs.declared.line.Line.{Line}
use Rattle.script_line.specs.declared.line.Line.TheVariants as lines
use Rattle.script_line.specs.Codes.{◌>>=◌}
use Rattle.script_line.specs.Names.{cell_name}
use Rattle.script_line.specs.Values.{value, integer}
use Rattle.script_line.specs.Arguments.{one, two, one_and_rest}
use Rattle.script_line.specs.Calls.{transform_word, transform_of_words, transform, factory_word, making_of_words, making, call_of_words}
use Rattle.script_line.specs.Lines.{line_of}
use Rattle.script_line.specs.Written.{written_line}
use Rattle.script_line.proofs.Judgements.{bind_ok}
use Rattle.script_line.proofs.WrittenLetters.{is_key}
use Rattle.script_line.proofs.ReadAgain.{Word, Words, AreReadAgain, ReadsAgain, one-again, two-again, one_and_rest-again, row, row_in_two}
use Rattle.script_line.proofs.WrittenValues.{cell_name-again, value-again, integer-again}

-- ---- what becomes of a value

transform_of_words-again : (t : TransformWord) (ws : Words) (m : Transform) → transform_of_words t ws ≡ Ok m → AreReadAgain transform transform_words m
unfolding transform
transform_of_words-again transform_names.Set ws m e = row transform transform_words (bytes "set") refl (one value) (λ v. val_text v ∷ []) (one-again value val_text value-again) transforms.Set (λ a. refl) (λ us. refl) ws m e
transform_of_words-again transform_names.Plus ws m e = row transform transform_words (bytes "plus") refl (one integer) (λ i. signed_decimal i ∷ []) (one-again integer signed_decimal integer-again) transforms.Plus (λ a. refl) (λ us. refl) ws m e
transform_of_words-again transform_names.Max ws m e = row transform transform_words (bytes "max") refl (one value) (λ v. val_text v ∷ []) (one-again value val_text value-again) transforms.Max (λ a. refl) (λ us. refl) ws m e

transform-again : ReadsAgain transform transform_words
unfolding transform
transform-again [] m e = absurd cc
transform-again (w ∷ ws) m e = let b = bind_ok (transform_word w) (λ t. transform_of_words t ws) m e in transform_of_words-again b.0 ws m b.2

-- ---- arguments

one_cell-again : ReadsAgain (one cell_name) (λ c. c ∷ [])
one_cell-again = one-again cell_name (λ n. n) cell_name-again

cell_and_value-again : ReadsAgain (two cell_name value) (λ p. p.0 ∷ val_text p.1 ∷ [])
cell_and_value-again = two-again cell_name (λ n. n) cell_name-again value val_text value-again

two_values-again : ReadsAgain (two value value) (λ p. val_text p.0 ∷ val_text p.1 ∷ [])
two_values-again = two-again value val_text value-again value val_text value-again

cell_and_two_values-again : ReadsAgain (one_and_rest cell_name (two value value)) (λ p. p.0 ∷ val_text p.1.0 ∷ val_text p.1.1 ∷ [])
cell_and_two_values-again = one_and_rest-again cell_name (λ n. n) cell_name-again (two value value) (λ q. val_text q.0 ∷ val_text q.1 ∷ []) two_values-again

cell_and_three_values-again : ReadsAgain (one_and_rest cell_name (one_and_rest value (two value value))) (λ p. p.0 ∷ val_text p.1.0 ∷ val_text p.1.1.0 ∷ val_text p.1.1.1 ∷ [])
cell_and_three_values-again =
    one_and_rest-again cell_name (λ n. n) cell_name-again (one_and_rest value (two value value)) (λ q. val_text q.0 ∷ val_text q.1.0 ∷ val_text q.1.1 ∷ [])
    (one_and_rest-again value val_text value-again (two value value) (λ q. val_text q.0 ∷ val_text q.1 ∷ []) two_values-again)

value_and_transform-again : ReadsAgain (one_and_rest value transform) (λ p. val_text p.0 ∷ transform_words p.1)
value_and_transform-again = one_and_rest-again value val_text value-again transform transform_words transform-again

cell_pair_and_transform-again : ReadsAgain (one_and_rest cell_name (one_and_rest value (one_and_rest value transform))) (λ p. p.0 ∷ val_text p.1.0 ∷ val_text p.1.1.0 ∷ transform_words p.1.1.1)
cell_pair_and_transform-again =
    one_and_rest-again cell_name (λ n. n) cell_name-again (one_and_rest value (one_and_rest value transform)) (λ q. val_text q.0 ∷ val_text q.1.0 ∷ transform_words q.1.1)
    (one_and_rest-again value val_text value-again (one_and_rest value transform) (λ q. val_text q.0 ∷ transform_words q.1) value_and_transform-again)

-- ---- how a value is made, and what becomes of the one that is there

abbrev written_making : Factory × Transform → Words
written_making p = factory_words p.0 ++ transform_words p.1

making_of_words-again : (f : FactoryWord) (ws : Words) (m : Factory × Transform) → making_of_words f ws ≡ Ok m → AreReadAgain making written_making m
unfolding making
making_of_words-again factory_names.Key ws m e = row making written_making (bytes "key") refl transform transform_words transform-again (λ t. (factories.Key, t)) (λ a. refl) (λ us. refl) ws m e
making_of_words-again factory_names.Const ws m e =
    row making written_making (bytes "const") refl (one_and_rest value transform) (λ p. val_text p.0 ∷ transform_words p.1) value_and_transform-again (λ p. (factories.Const p.0, p.1)) (λ a. refl) (λ us. refl) ws m e

making-again : ReadsAgain making written_making
unfolding making
making-again [] m e = absurd cc
making-again (w ∷ ws) m e = let b = bind_ok (factory_word w) (λ f. making_of_words f ws) m e in making_of_words-again b.0 ws m b.2

cell_key_and_making-again : ReadsAgain (one_and_rest cell_name (one_and_rest value making)) (λ p. p.0 ∷ val_text p.1.0 ∷ written_making p.1.1)
cell_key_and_making-again =
    one_and_rest-again cell_name (λ n. n) cell_name-again (one_and_rest value making) (λ q. val_text q.0 ∷ written_making q.1)
    (one_and_rest-again value val_text value-again making written_making making-again)

-- ---- a row for each call

-- a version has the word of a call
abbrev pub has_call : Version → CallWord → Bool
has_call versions.One call_words.AddOrUpdateMade = false
has_call _ _ = true

module _ (version : Version) {A : Type 0} (word : Word) (key : is_key word ≡ true) (read : Words → Result A Code) (behind : A → Words) (reads : ReadsAgain read behind) (make : A → Command) (said : (a : A) → written_line (lines.Command (make a)) ≡ word ∷ behind a) where
  call_row : ((ws : Words) → line_of version (word ∷ ws) ≡ ((read ws >>= λ a. Ok (make a)) >>= λ c. Ok (lines.Command c))) → (ws : Words) (l : Line) → ((read ws >>= λ a. Ok (make a)) >>= λ c. Ok (lines.Command c)) ≡ Ok l → AreReadAgain (line_of version) written_line l
  call_row = row_in_two (line_of version) written_line word key read behind reads make lines.Command said

pub call_of_words-again : (version : Version) (call : CallWord) (ws : Words) (l : Line) → has_call version call ≡ true → (call_of_words call ws >>= λ c. Ok (lines.Command c)) ≡ Ok l → AreReadAgain (line_of version) written_line l
call_of_words-again version call_words.GetOrAdd ws l has e =
    call_row version (bytes "getoradd") refl (one_and_rest cell_name (two value value)) (λ p. p.0 ∷ val_text p.1.0 ∷ val_text p.1.1 ∷ []) cell_and_two_values-again (λ p. commands.GetOrAdd p.0 p.1.0 p.1.1) (λ a. refl) (λ us. refl) ws l e
call_of_words-again version call_words.AddOrUpdate ws l has e =
    call_row version (bytes "addorupdate") refl (one_and_rest cell_name (one_and_rest value (one_and_rest value transform))) (λ p. p.0 ∷ val_text p.1.0 ∷ val_text p.1.1.0 ∷ transform_words p.1.1.1) cell_pair_and_transform-again (λ p. commands.AddOrUpdate p.0 p.1.0 p.1.1.0 p.1.1.1)
    (λ a. refl) (λ us. refl) ws l e
call_of_words-again version call_words.TryAdd ws l has e =
    call_row version (bytes "tryadd") refl (one_and_rest cell_name (two value value)) (λ p. p.0 ∷ val_text p.1.0 ∷ val_text p.1.1 ∷ []) cell_and_two_values-again (λ p. commands.TryAdd p.0 p.1.0 p.1.1) (λ a. refl) (λ us. refl) ws l e
call_of_words-again version call_words.TryUpdate ws l has e =
    call_row version (bytes "tryupdate") refl (one_and_rest cell_name (one_and_rest value (two value value))) (λ p. p.0 ∷ val_text p.1.0 ∷ val_text p.1.1.0 ∷ val_text p.1.1.1 ∷ []) cell_and_three_values-again (λ p. commands.TryUpdate p.0 p.1.0 p.1.1.0 p.1.1.1)
    (λ a. refl) (λ us. refl) ws l e
call_of_words-again version call_words.TryRemove ws l has e =
    call_row version (bytes "tryremove") refl (two cell_name value) (λ p. p.0 ∷ val_text p.1 ∷ []) cell_and_value-again (λ p. commands.TryRemove p.0 p.1) (λ a. refl) (λ us. refl) ws l e
call_of_words-again version call_words.Push ws l has e =
    call_row version (bytes "push") refl (two cell_name value) (λ p. p.0 ∷ val_text p.1 ∷ []) cell_and_value-again (λ p. commands.Push p.0 p.1) (λ a. refl) (λ us. refl) ws l e
call_of_words-again version call_words.TryPop ws l has e =
    call_row version (bytes "trypop") refl (one cell_name) (λ c. c ∷ []) one_cell-again commands.TryPop (λ a. refl) (λ us. refl) ws l e
call_of_words-again version call_words.Enqueue ws l has e =
    call_row version (bytes "enqueue") refl (two cell_name value) (λ p. p.0 ∷ val_text p.1 ∷ []) cell_and_value-again (λ p. commands.Enqueue p.0 p.1) (λ a. refl) (λ us. refl) ws l e
call_of_words-again version call_words.TryDequeue ws l has e =
    call_row version (bytes "trydequeue") refl (one cell_name) (λ c. c ∷ []) one_cell-again commands.TryDequeue (λ a. refl) (λ us. refl) ws l e
call_of_words-again versions.Two call_words.AddOrUpdateMade ws l has e =
    call_row versions.Two (bytes "addorupdatef") refl (one_and_rest cell_name (one_and_rest value making)) (λ p. p.0 ∷ val_text p.1.0 ∷ written_making p.1.1) cell_key_and_making-again (λ p. commands.AddOrUpdateMade p.0 p.1.0 p.1.1.0 p.1.1.1)
    (λ a. refl) (λ us. refl) ws l e
call_of_words-again versions.One call_words.AddOrUpdateMade ws l has e = absurd cc
