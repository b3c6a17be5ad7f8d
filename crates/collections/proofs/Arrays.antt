-- Arrays as the plain model sees them.
use Rattle.std.proofs.Common.{◌≡◌, ◌≤◌, List, length, Ok, Err, ap, sym, subst, ◌∙◌, refl}
use Rattle.std.specs.Prelude.{Result}
use Rattle.imm_base.specs.declared.TheConstants.{LIMIT}
use Rattle.imm_base.specs.declared.val.Val.{Val}
use Rattle.imm_base.specs.declared.val.Edit.{Edit}
use Rattle.imm_base.specs.declared.val.Edit.TheVariants.{Same, New}
use Rattle.imm_base.specs.Answers.{IsEdit, IsNew}
use Rattle.imm_base.specs.Answers as base
use Rattle.imm_base.specs.Edits.{Gives}
use Rattle.imm_array.specs.declared.fault.ArrayFault.{ArrayFault}
use Rattle.imm_array.specs.declared.fault.ArrayFault.TheVariants as faults
use Rattle.imm_array.specs.Answers.{Tells, Answers, AnswersMade, array_why}
use Rattle.plain_model.specs.declared.plain.Kind.TheVariants as kinds
use Rattle.plain_model.specs.declared.commands.PlainOp.{PlainOp}
use Rattle.plain_model.specs.declared.history.Refusal.{Refusal}
use Rattle.plain_model.specs.Plain.{Changed, IfChanged, IsPlain, of_list, plain}
use Rattle.plain_model.proofs.StaysPlain.{stays_plain}
use Rattle.collections.specs.Changes.{change_map}
use Rattle.collections.specs.Kinds.{array_of, list_of}

-- what a fault of an array tells, in the words of all collections
told : (fault : ArrayFault) (gives : Gives Val (List Val)) → Tells fault gives → base.Tells array_why fault gives
told (faults.OutOfRange i n) gives h = h
told faults.NotFound gives h = h
told (faults.TooLarge n) gives h = h
told (faults.NotFull n c) gives h = tt
told (faults.CapacityTooSmall n w) gives h = tt
told faults.Memory gives h = tt

pub edit_answered : (called : Result (Edit (List Val)) ArrayFault) (gives : Gives Val (List Val)) → Answers called gives → base.Answers array_why IsEdit called gives
edit_answered (Ok answer) gives h = h
edit_answered (Err fault) gives h = told fault gives h

pub new_answered : (called : Result (List Val) ArrayFault) (gives : Gives Val (List Val)) → AnswersMade called gives → base.Answers array_why IsNew called gives
new_answered (Ok xs) gives h = h
new_answered (Err fault) gives h = told fault gives h

-- ---- operations of lists

-- what becomes of a list, as what becomes of an array
abbrev as_array : Changed → Changed
as_array (Ok Same) = Ok Same
as_array (Ok (New p)) = Ok (New (record p { kind = kinds.Array }))
as_array (Err r) = Err r

change_seen : (c : Result (Edit (List Val)) Refusal) → as_array (change_map list_of c) ≡ change_map array_of c
change_seen (Ok Same) = refl
change_seen (Ok (New ys)) = refl
change_seen (Err r) = refl

given_seen : (xs : List Val) (gives : Gives Val (List Val)) → as_array (of_list (list_of xs) gives) ≡ of_list (array_of xs) gives
given_seen xs (Ok Same) = refl
given_seen xs (Ok (New ys)) = refl
given_seen xs (Err why) = refl

-- an array becomes what the list of its elements becomes
pub changed_as_list : (xs : List Val) (c : Result (Edit (List Val)) Refusal) (gives : Gives Val (List Val))
    → change_map list_of c ≡ of_list (list_of xs) gives → change_map array_of c ≡ of_list (array_of xs) gives
changed_as_list xs c gives e = sym (change_seen c) ∙ (ap as_array e ∙ given_seen xs gives)

-- and it stays short
pub few_as_list : (op : PlainOp) (xs : List Val) (c : Result (Edit (List Val)) Refusal) (other : List Val) → length xs ≤ LIMIT
    → change_map list_of c ≡ plain op (list_of xs) → c ≡ Ok (New other) → length other ≤ LIMIT
few_as_list op xs c other few e is =
    let stays : IfChanged (plain op (list_of xs)) IsPlain = stays_plain op (list_of xs) (record { fits = few; kept = tt }) in
    let new : IfChanged (Ok (New (list_of other))) IsPlain = subst (λ change. IfChanged change IsPlain) (sym e ∙ ap (λ d. change_map list_of d) is) stays in
    new.fits
