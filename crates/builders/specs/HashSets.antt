-- What a change of a hash set's builder answers, and what becomes of the builder.
use Rattle.std.specs.Prelude.{List, Result}
use Rattle.imm_base.specs.declared.faults.SetFault.{SetFault}
use Rattle.imm_base.specs.declared.val.Step.{Step}
use Rattle.imm_base.specs.Answers.{IsKept, set_why}
use Rattle.imm_base.specs.Edits.{Gives}
use Rattle.hash_bucket.specs.Hashed.{Hashed}
use Rattle.plain_model.specs.Builders.{Built}
use Rattle.builders.specs.Changes as base

-- the set is under this equality before and after
abbrev pub Changes : {T H : Type 0} → H → Result Step SetFault → Gives T (List T) → Built (Hashed T H)
    → Built (Hashed T H) → Type 0
Changes eq = base.Changes set_why (IsKept (λ s. s.items) (λ s. s.eq) eq)
