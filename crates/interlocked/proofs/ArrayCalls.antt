-- What a call on a cell with an array does.
use Rattle.std.proofs.Common.{◌≡◌, Bool, true, false, ◌&&◌, List, [], ◌∷◌, sym, refl, ap, ◌∙◌, subst, if◌then◌else◌}
use Rattle.std.specs.Cmp.Lexicographic.{pointwise}
use Rattle.imm_base.specs.declared.val.Val.{Val}
use Rattle.imm_base.specs.Order.{val_eq}
use Rattle.imm_base.specs.declared.val.Edit.TheVariants.{Same, New}
use Rattle.plain_model.specs.declared.plain.Kind.TheVariants.{Array}
use Rattle.plain_model.specs.declared.plain.Values.{Values}
use Rattle.plain_model.specs.declared.plain.Values.TheVariants as values
use Rattle.plain_model.specs.declared.plain.Plain.{Plain}
use Rattle.plain_model.specs.declared.commands.PlainCall.TheVariants as calls
use Rattle.plain_model.specs.declared.history.Reply.{Reply}
use Rattle.plain_model.specs.Cell.{Outcome, cell, vals_eq, arrays_eq, array_reply, with_array, install_and_reply, reply_only}
use Rattle.interlocked.specs.declared.array.ArrayValue.{ArrayValue}
use Rattle.interlocked.specs.declared.array.ArrayValue.TheVariants as arrays
use Rattle.interlocked.specs.declared.change.Outcome as change
use Rattle.interlocked.specs.Meanings.{array_plain, array_values}
use Rattle.interlocked.specs.Outcomes.{Applies, IsOutcome}
use Rattle.interlocked.proofs.Applied.{stays, grows}

-- elements are compared one by one
pub same_elements : (xs ys : List Val) → pointwise val_eq xs ys ≡ vals_eq xs ys
same_elements [] [] = refl
same_elements [] (y ∷ ys) = refl
same_elements (x ∷ xs) [] = refl
same_elements (x ∷ xs) (y ∷ ys) = ap (λ (b : Bool). val_eq x y && b) (same_elements xs ys)

module _ (old : ArrayValue) (xs : List Val) where
  abbrev P : Plain
  P = array_plain old

  pub exchanged : (ys : List Val) (reply : Reply) → ys ≡ xs → reply ≡ array_reply (array_values old) → Applies array_plain (calls.Exchange xs) P (record { edit = New (arrays.Array ys); reply = reply })
  exchanged ys reply same is = grows array_plain Array (cell (calls.Exchange xs) P) (arrays.Array ys) reply (λ k. install_and_reply (array_plain (arrays.Array (sym same k))) (sym is k)) refl

  -- the outcome, by whether the cell has the array that is wanted
  abbrev by_test : Bool → Outcome
  by_test b = if b then install_and_reply (with_array xs P) (array_reply (array_values old)) else reply_only (array_reply (array_values old))

  pub compared : (wanted : ArrayValue) → arrays_eq (array_values old) (array_values wanted) ≡ true → (o : change.Outcome ArrayValue) → Applies array_plain (calls.Exchange xs) P o → Applies array_plain (calls.CompareExchange xs (array_values wanted)) P o
  compared wanted equal o h = subst (λ (given : Outcome). IsOutcome array_plain Array given o) (sym (ap by_test equal)) h

  pub differs : (wanted : ArrayValue) → arrays_eq (array_values old) (array_values wanted) ≡ false → (reply : Reply) → reply ≡ array_reply (array_values old) → Applies array_plain (calls.CompareExchange xs (array_values wanted)) P (record { edit = Same; reply = reply })
  differs wanted other reply is = stays array_plain Array (cell (calls.CompareExchange xs (array_values wanted)) P) reply (ap by_test other ∙ ap reply_only (sym is))
