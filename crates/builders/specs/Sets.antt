-- What a change of a sorted set's builder answers, and what becomes of the builder.
use Rattle.std.specs.Prelude.{List, Result}
use Rattle.imm_base.specs.declared.faults.SetFault.{SetFault}
use Rattle.imm_base.specs.declared.val.Step.{Step}
use Rattle.imm_base.specs.Answers.{IsKept, set_why}
use Rattle.imm_base.specs.Edits.{Gives}
use Rattle.plain_model.specs.Builders.{Built}
use Rattle.sorted_sets.specs.Ordered.{Ordered}
use Rattle.builders.specs.Changes as base

-- the set is kept in this order before and after
module _ {T O : Type 0} (order : O) where
  abbrev pub Changes : Result Step SetFault → Gives T (List T) → Built (Ordered T O)
      → Built (Ordered T O) → Type 0
  Changes = base.Changes set_why (IsKept (λ s. s.items) (λ s. s.order) order)
