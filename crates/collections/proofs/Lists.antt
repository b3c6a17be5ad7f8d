-- Lists, and other kinds whose contents are a list, as the plain model sees them.
use Rattle.std.proofs.Common.{◌≡◌, Bool, true, false, List, [], length, Ok, Err, ap, sym, refl}
use Rattle.std.specs.Prelude.{Option, Result, IfOk, if◌then◌else◌}
use Rattle.imm_base.specs.declared.val.Val.{Val}
use Rattle.imm_base.specs.declared.val.Edit.{Edit}
use Rattle.imm_base.specs.declared.val.Edit.TheVariants.{Same, New}
use Rattle.imm_base.specs.Answers.{IsEdit, IsNew}
use Rattle.imm_base.specs.Answers as base
use Rattle.imm_base.specs.Edits.{Why, Gives, too_large, is_over}
use Rattle.avl_node.specs.Rows.{list_made}
use Rattle.plain_model.specs.declared.plain.Kind.{Kind}
use Rattle.plain_model.specs.declared.plain.Plain.{Plain}
use Rattle.plain_model.specs.declared.plain.Values.{Values}
use Rattle.plain_model.specs.declared.history.Refusal.{Refusal}
use Rattle.plain_model.specs.declared.history.Refusal.TheVariants as refusals
use Rattle.plain_model.specs.declared.plain.Values.TheVariants as values
use Rattle.plain_model.specs.Plain.{count, filled, made, of_list}
use Rattle.collections.specs.Changes.{judged_by, change_map, made_map, or_unchanged}
use Rattle.collections.specs.Kinds.{kind_of}
use Rattle.collections.proofs.JudgedCalls.{judged_is}

module _ (kind : Kind) where
  edit_given : (xs : List Val) (answer : Edit (List Val)) (gives : Gives Val (List Val)) → IsEdit answer gives
      → change_map (kind_of kind) (Ok answer) ≡ of_list (kind_of kind xs) gives
  edit_given xs Same gives e = sym (ap (of_list (kind_of kind xs)) e)
  edit_given xs (New ys) gives e = sym (ap (of_list (kind_of kind xs)) e)

  -- what an operation gives of the list xs
  pub edit_judged : {F : Type 0} (why : F → Option (Why Val)) (xs : List Val) (called : Result (Edit (List Val)) F) (gives : Gives Val (List Val))
      → base.Answers why IsEdit called gives → IfOk (judged_by why called) (λ c. change_map (kind_of kind) c ≡ of_list (kind_of kind xs) gives)
  edit_judged why xs = judged_is why (change_map (kind_of kind)) (of_list (kind_of kind xs)) (λ w. refl) IsEdit (edit_given xs)

-- ---- new collections

-- a collection of a kind that keeps these elements is made of them, where they are not too many
pub made_of : (kind : Kind) (src : Values) (xs : List Val) → filled kind src ≡ values.List xs
    → made kind src ≡ (if is_over (length xs) then Err (refusals.TooLarge 0) else Ok (kind_of kind xs))
made_of kind src xs e = ap (λ vs. if is_over (count vs) then Err (refusals.TooLarge 0) else Ok (record { kind = kind; values = vs })) e

module _ (kind : Kind) where
  abbrev new_of : Gives Val (List Val) → Result Plain Refusal
  new_of gives = or_unchanged (kind_of kind []) (of_list (kind_of kind []) gives)

  new_given : (xs : List Val) (gives : Gives Val (List Val)) → IsNew xs gives → made_map (kind_of kind) (Ok xs) ≡ new_of gives
  new_given xs gives e = sym (ap new_of e)

  new_is : (over : Bool) (xs : List Val) → new_of (if over then Err (too_large 0) else Ok (New xs)) ≡ (if over then Err (refusals.TooLarge 0) else Ok (kind_of kind xs))
  new_is true xs = refl
  new_is false xs = refl

  -- what a call makes of these values from nothing
  pub new_judged : {F : Type 0} (why : F → Option (Why Val)) (src : Values) (xs : List Val) → filled kind src ≡ values.List xs
      → (called : Result (List Val) F) → base.Answers why IsNew called (list_made xs) → IfOk (judged_by why called) (λ m. made_map (kind_of kind) m ≡ made kind src)
  new_judged why src xs e called h =
      rw (made_of kind src xs e, sym (new_is (is_over (length xs)) xs)) (judged_is why (made_map (kind_of kind)) new_of (λ w. refl) IsNew new_given called (list_made xs) h)
