-- How the result of a changing call stands to what its row gives.
use Rattle.std.specs.Prelude.{◌≡◌, Option, Some, None, IfSome, Result, Ok, Err}
use Rattle.imm_base.specs.declared.val.Edit.{Edit}
use Rattle.imm_base.specs.declared.val.Edit.TheVariants.{Same, New}
use Rattle.imm_base.specs.declared.faults.Refused.{Refused}
use Rattle.imm_base.specs.declared.faults.Refused.TheVariants as refused
use Rattle.imm_base.specs.declared.faults.SetFault.{SetFault}
use Rattle.imm_base.specs.declared.faults.SetFault.TheVariants as set_faults
use Rattle.imm_base.specs.declared.faults.MapFault.{MapFault}
use Rattle.imm_base.specs.declared.faults.MapFault.TheVariants as map_faults
use Rattle.imm_base.specs.Edits.{Why, out_of_range, not_found, key_exists, too_large, empty, Gives}

-- `why` says of each fault which refusal it tells, and None of want of memory.
module _ {F V C : Type 0} (why : F → Option (Why V)) where
  -- the fault tells the refusal that is given, or want of memory
  abbrev pub Tells : F → Gives V C → Type 0
  Tells fault gives = IfSome (why fault) (λ w. gives ≡ Err w)

  -- the result is what is given, or want of memory; `IsGiven` says what an answer stands for
  abbrev pub Answers : {R : Type 0} → (R → Gives V C → Type 0) → Result R F → Gives V C → Type 0
  Answers IsGiven (Ok answer) gives = IsGiven answer gives
  Answers IsGiven (Err fault) gives = Tells fault gives

-- an answer that is what is given, as it is
abbrev pub IsEdit : {V C : Type 0} → Edit C → Gives V C → Type 0
IsEdit answer gives = gives ≡ Ok answer

-- an answer that is the other collection
abbrev pub IsNew : {V C : Type 0} → C → Gives V C → Type 0
IsNew c gives = gives ≡ Ok (New c)

-- an answer whose collection, of these contents, has this order or equality
module _ {S O V C : Type 0} (contents : S → C) (comparer : S → O) (own : O) where
  abbrev pub IsKept : Edit S → Gives V C → Type 0
  IsKept Same gives = gives ≡ Ok Same
  IsKept (New s) gives = (gives ≡ Ok (New (contents s))) × (comparer s ≡ own)

-- ---- what the faults tell

abbrev pub why_of : {V : Type 0} → Refused V → Why V
why_of (refused.OutOfRange i n) = out_of_range i n
why_of refused.NotFound = not_found
why_of (refused.KeyExists u) = key_exists u
why_of (refused.TooLarge n) = too_large n
why_of refused.Empty = empty

abbrev pub set_why : {V : Type 0} → SetFault → Option (Why V)
set_why (set_faults.OutOfRange i n) = Some (out_of_range i n)
set_why (set_faults.TooLarge n) = Some (too_large n)
set_why set_faults.Memory = None

abbrev pub map_why : {V : Type 0} → MapFault V → Option (Why V)
map_why (map_faults.KeyExists u) = Some (key_exists u)
map_why (map_faults.TooLarge n) = Some (too_large n)
map_why map_faults.Memory = None
