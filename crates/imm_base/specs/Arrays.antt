-- Arrays that are built in place: their elements, and for how many there is room.
use Rattle.std.specs.Prelude.{ℕ, ◌*◌, List, [], length, min, max, Result, Ok, Err, nat_le, if◌then◌else◌}
use Rattle.imm_base.specs.declared.TheConstants.{LIMIT}
use Rattle.imm_base.specs.declared.val.Edit.{Edit}
use Rattle.imm_base.specs.declared.val.Edit.TheVariants.{Same, New}

-- the elements of an array, and for how many there is room
pub record ArrayBuilt (T : Type 0) : Type 0 where
  pub contents : List T
  pub capacity : ℕ

abbrev pub new_array_builder : {T : Type 0} → List T → ArrayBuilt T
new_array_builder xs = record { contents = xs; capacity = length xs }

-- the capacity after a call that needed so many places
abbrev pub capacity_for : ℕ → ℕ → ℕ
capacity_for needed capacity = if nat_le needed capacity then capacity else min LIMIT (max (2 * capacity) needed)

-- after a change that gave this
abbrev pub after_array_change : {T E : Type 0} → Result (Edit (List T)) E → ArrayBuilt T → ArrayBuilt T
after_array_change (Ok (New xs)) b = record { contents = xs; capacity = capacity_for (length xs) b.capacity }
after_array_change (Ok Same) b = b
after_array_change (Err e) b = b

-- after its contents were moved out
abbrev pub emptied_builder : {T : Type 0} → ArrayBuilt T
emptied_builder = record { contents = []; capacity = 0 }
