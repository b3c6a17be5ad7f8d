-- What a change of a list's builder answers, and what becomes of the builder.
use Rattle.std.specs.Prelude.{List, Result}
use Rattle.imm_base.specs.declared.val.Step.{Step}
use Rattle.imm_base.specs.Answers.{IsEdit}
use Rattle.imm_base.specs.Edits.{Gives}
use Rattle.imm_list.specs.Answers.{list_why}
use Rattle.imm_list.specs.declared.fault.ListFault.{ListFault}
use Rattle.plain_model.specs.Builders.{Built}
use Rattle.builders.specs.Changes as base

abbrev pub Changes : {T : Type 0} → Result Step ListFault → Gives T (List T) → Built (List T)
    → Built (List T) → Type 0
Changes = base.Changes list_why IsEdit
