-- What a change of a dictionary's builder answers, and what becomes of the builder.
use Rattle.std.specs.Prelude.{Result}
use Rattle.imm_base.specs.declared.faults.MapFault.{MapFault}
use Rattle.imm_base.specs.declared.val.Step.{Step}
use Rattle.imm_base.specs.Answers.{IsKept, map_why}
use Rattle.imm_base.specs.Edits.{Gives}
use Rattle.imm_base.specs.Maps.{Entries}
use Rattle.imm_dictionary.specs.Mapped.{Mapped}
use Rattle.plain_model.specs.Builders.{Built}
use Rattle.builders.specs.Changes as base

-- the map is under this equality before and after
abbrev pub Changes : {K V H : Type 0} → H → Result Step (MapFault V) → Gives V (Entries K V)
    → Built (Mapped K V H) → Built (Mapped K V H) → Type 0
Changes eq = base.Changes map_why (IsKept (λ m. m.pairs) (λ m. m.eq) eq)
