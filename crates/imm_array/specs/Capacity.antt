-- What the calls of a builder answer and leave.
use Rattle.std.specs.Prelude.{◌≡◌, ℕ, ◌==◌, List, length, Option, Some, None, Result, Ok, Err, nat_lt, if◌then◌else◌}
use Rattle.imm_base.specs.declared.val.Step.{Step}
use Rattle.imm_base.specs.declared.val.Step.TheVariants as steps
use Rattle.imm_base.specs.declared.val.Edit.TheVariants.{Same, New}
use Rattle.imm_base.specs.Edits.{Gives, is_over}
use Rattle.imm_base.specs.Arrays.{ArrayBuilt, after_array_change}
use Rattle.imm_array.specs.declared.fault.ArrayFault.{ArrayFault}
use Rattle.imm_array.specs.declared.fault.ArrayFault.TheVariants as faults
use Rattle.imm_array.specs.Answers.{Tells}

-- ---- changes

-- the operation gives another collection
abbrev pub GivesNew : {V C : Type 0} → Gives V C → Type 0
GivesNew (Ok Same) = ⊥
GivesNew (Ok (New c)) = Unit {0}
GivesNew (Err why) = ⊥

module _ {T : Type 0} where
  -- the step, or the refusal, is what the operation gives, or want of memory
  abbrev pub Steps : Result Step ArrayFault → Gives T (List T) → Type 0
  Steps (Ok steps.Same) gives = gives ≡ Ok Same
  Steps (Ok steps.New) gives = GivesNew gives
  Steps (Err fault) gives = Tells fault gives

  -- the builder after it: as it was, where memory was wanted
  abbrev pub changed : Result Step ArrayFault → Gives T (List T) → ArrayBuilt T → ArrayBuilt T
  changed (Err faults.Memory) gives b = b
  changed _ gives b = after_array_change gives b

  -- a change answers and leaves what the operation gives
  pub record Changes (result : Result Step ArrayFault) (gives : Gives T (List T)) (old new : ArrayBuilt T) : Type 0 where
    pub answer : Steps result gives
    pub after : new ≡ changed result gives old

-- ---- capacities

module _ {T : Type 0} where
  -- why so many places are refused as the capacity
  abbrev pub capacity_fault : ℕ → ArrayBuilt T → Option ArrayFault
  capacity_fault wanted b =
      if nat_lt wanted (length b.contents) then Some (faults.CapacityTooSmall (length b.contents) wanted)
      else if is_over wanted then Some (faults.TooLarge (length b.contents))
      else None

  -- why the contents can't be moved out
  abbrev pub move_fault : ArrayBuilt T → Option ArrayFault
  move_fault b =
      if length b.contents == b.capacity then None
      else Some (faults.NotFull (length b.contents) b.capacity)

-- the fault is this one, or want of memory
abbrev pub IsFault : ArrayFault → Option ArrayFault → Type 0
IsFault faults.Memory why = Unit {0}
IsFault fault why = why ≡ Some fault
