-- What a changing call answers.
use Rattle.std.specs.Prelude.{List, Option, Some, None, Result}
use Rattle.imm_base.specs.declared.val.Edit.{Edit}
use Rattle.imm_base.specs.Edits.{Why, too_large, empty, Gives}
use Rattle.imm_base.specs.Answers.{IsEdit}
use Rattle.imm_base.specs.Answers as base
use Rattle.queue_stack.specs.declared.fault.EndFault.{EndFault}
use Rattle.queue_stack.specs.declared.fault.EndFault.TheVariants as faults

-- the refusal that a fault tells
abbrev pub end_why : {V : Type 0} → EndFault → Option (Why V)
end_why faults.Empty = Some empty
end_why (faults.TooLarge n) = Some (too_large n)
end_why faults.Memory = None

-- the result is what the operation gives, or want of memory
abbrev pub Answers : {T : Type 0} → Result (Edit (List T)) EndFault → Gives T (List T) → Type 0
Answers = base.Answers end_why IsEdit
