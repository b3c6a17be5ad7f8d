-- What a changing call of an array answers.
use Rattle.std.specs.Prelude.{◌≡◌, List, length, Option, Some, None, Result, Ok, Err, if◌then◌else◌}
use Rattle.imm_base.specs.declared.val.Edit.{Edit}
use Rattle.imm_base.specs.declared.val.Edit.TheVariants.{New}
use Rattle.imm_base.specs.Edits.{Why, out_of_range, not_found, too_large, Gives, is_over}
use Rattle.imm_array.specs.declared.fault.ArrayFault.{ArrayFault}
use Rattle.imm_array.specs.declared.fault.ArrayFault.TheVariants as faults

-- the refusal of an operation that a fault tells
abbrev pub array_why : {V : Type 0} → ArrayFault → Option (Why V)
array_why (faults.OutOfRange i n) = Some (out_of_range i n)
array_why faults.NotFound = Some not_found
array_why (faults.TooLarge n) = Some (too_large n)
array_why (faults.NotFull n c) = None
array_why (faults.CapacityTooSmall n w) = None
array_why faults.Memory = None

module _ {T C : Type 0} where
  -- the fault tells the refusal that is given, or want of memory; it is none of a capacity
  abbrev pub Tells : ArrayFault → Gives T C → Type 0
  Tells (faults.OutOfRange i n) gives = gives ≡ Err (out_of_range i n)
  Tells faults.NotFound gives = gives ≡ Err not_found
  Tells (faults.TooLarge n) gives = gives ≡ Err (too_large n)
  Tells (faults.NotFull n c) gives = ⊥
  Tells (faults.CapacityTooSmall n w) gives = ⊥
  Tells faults.Memory gives = Unit {0}

-- the result is what the operation gives, or want of memory
abbrev pub Answers : {T : Type 0} → Result (Edit (List T)) ArrayFault → Gives T (List T) → Type 0
Answers (Ok edit) gives = gives ≡ Ok edit
Answers (Err fault) gives = Tells fault gives

-- the array of these, from nothing
abbrev pub array_made : {T : Type 0} → List T → Gives T (List T)
array_made xs =
    if is_over (length xs) then Err (too_large 0)
    else Ok (New xs)

-- the same of a call that makes an array from nothing
abbrev pub AnswersMade : {T : Type 0} → Result (List T) ArrayFault → Gives T (List T) → Type 0
AnswersMade (Ok xs) gives = gives ≡ Ok (New xs)
AnswersMade (Err fault) gives = Tells fault gives
