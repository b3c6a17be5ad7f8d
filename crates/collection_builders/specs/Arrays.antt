-- Why the calls of a builder of arrays are refused that are no operations of arrays.
use Rattle.std.specs.Prelude.{ℕ, ◌==◌, length, Option, Some, None, nat_lt, if◌then◌else◌}
use Rattle.imm_base.specs.declared.val.Val.{Val}
use Rattle.imm_base.specs.Arrays.{ArrayBuilt}
use Rattle.imm_base.specs.Edits.{is_over}
use Rattle.plain_model.specs.declared.history.Refusal.{Refusal}
use Rattle.plain_model.specs.declared.history.Refusal.TheVariants as refusals

-- why so many places are refused as the capacity
abbrev pub capacity_refusal : ℕ → ArrayBuilt Val → Option Refusal
capacity_refusal wanted b =
    if nat_lt wanted (length b.contents) then Some (refusals.Capacity (length b.contents) wanted)
    else if is_over wanted then Some (refusals.TooLarge (length b.contents))
    else None

-- why the contents can't be moved out
abbrev pub move_refusal : ArrayBuilt Val → Option Refusal
move_refusal b =
    if length b.contents == b.capacity then None
    else Some (refusals.NotFull (length b.contents) b.capacity)
