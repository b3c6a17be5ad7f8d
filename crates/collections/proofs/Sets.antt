-- Sets, sorted and hashed, as the plain model sees them.
use Rattle.std.proofs.Common.{◌≡◌, Bool, true, false, List, [], ◌∷◌, length, Ok, Err, ap, sym, ◌∙◌, refl}
use Rattle.std.specs.Prelude.{Result, IfOk, if◌then◌else◌}
use Rattle.imm_base.specs.declared.val.Val.{Val}
use Rattle.imm_base.specs.declared.val.Edit.{Edit}
use Rattle.imm_base.specs.declared.val.Edit.TheVariants.{Same, New}
use Rattle.imm_base.specs.declared.faults.SetFault.{SetFault}
use Rattle.imm_base.specs.Answers.{Answers, IsKept, set_why}
use Rattle.imm_base.specs.Order.{val_eq}
use Rattle.imm_base.specs.Edits.{Gives, too_large, is_over, edit}
use Rattle.plain_model.specs.declared.plain.Kind.{Kind}
use Rattle.plain_model.specs.declared.plain.Plain.{Plain}
use Rattle.plain_model.specs.declared.plain.Values.{Values}
use Rattle.plain_model.specs.declared.plain.Values.TheVariants as values
use Rattle.plain_model.specs.declared.history.Refusal.{Refusal}
use Rattle.plain_model.specs.declared.history.Refusal.TheVariants as refusals
use Rattle.plain_model.specs.Plain.{filled, made, of_list}
use Rattle.collections.specs.Changes.{judged_by, change_map, made_map, or_unchanged}
use Rattle.collections.specs.Kinds.{kind_of}
use Rattle.collections.proofs.JudgedCalls.{judged_is, or_unchanged-map}
use Rattle.collections.proofs.Lists.{made_of}

new_is : (kind : Kind) (over : Bool) (xs : List Val)
    → or_unchanged (kind_of kind []) (of_list (kind_of kind []) (if over then Err (too_large 0) else edit val_eq [] xs))
    ≡ (if over then Err (refusals.TooLarge 0) else Ok (kind_of kind xs))
new_is kind true xs = refl
new_is kind false [] = refl
new_is kind false (x ∷ xs) = refl

-- `contents` and `comparer` are what a set has, and `kind` is the kind of sets under a comparer
module _ {S O : Type 0} (contents : S → List Val) (comparer : S → O) (kind : O → Kind) where
  abbrev seen : S → Plain
  seen set = kind_of (kind (comparer set)) (contents set)

  set_given : (own : O) (xs : List Val) (answer : Edit S) (gives : Gives Val (List Val)) → IsKept contents comparer own answer gives
      → change_map seen (Ok answer) ≡ of_list (kind_of (kind own) xs) gives
  set_given own xs Same gives e = sym (ap (of_list (kind_of (kind own) xs)) e)
  set_given own xs (New set) gives h =
      let at : change_map seen (Ok (New set)) ≡ Ok (New (kind_of (kind own) (contents set))) = ap (λ (o : O). Ok (New (kind_of (kind o) (contents set)))) h.1 in
      at ∙ sym (ap (of_list (kind_of (kind own) xs)) h.0)

  -- what a call gives of the set xs, which is kept under the comparer then
  pub set_judged : (own : O) (xs : List Val) (called : Result (Edit S) SetFault) (gives : Gives Val (List Val))
      → Answers set_why (IsKept contents comparer own) called gives → IfOk (judged_by set_why called) (λ c. change_map seen c ≡ of_list (kind_of (kind own) xs) gives)
  set_judged own xs = judged_is set_why (change_map seen) (of_list (kind_of (kind own) xs)) (λ w. refl) (IsKept contents comparer own) (set_given own xs)

  -- the set of these values, which has the elements xs, is their union with the empty one
  pub new_set : (own : O) (src : Values) (xs : List Val) → filled (kind own) src ≡ values.List xs → (empty : S) (change : Result (Edit S) Refusal)
      → seen empty ≡ kind_of (kind own) []
      → change_map seen change ≡ of_list (kind_of (kind own) []) (if is_over (length xs) then Err (too_large 0) else edit val_eq [] xs)
      → made_map seen (or_unchanged empty change) ≡ made (kind own) src
  new_set own src xs e empty change none is =
      or_unchanged-map seen empty change
      ∙ ap (λ p. or_unchanged p (change_map seen change)) none
      ∙ ap (λ c. or_unchanged (kind_of (kind own) []) c) is
      ∙ new_is (kind own) (is_over (length xs)) xs
      ∙ sym (made_of (kind own) src xs e)
