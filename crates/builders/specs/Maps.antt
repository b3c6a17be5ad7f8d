-- What a change of a sorted map's builder answers, and what becomes of the builder.
use Rattle.std.specs.Prelude.{Result}
use Rattle.imm_base.specs.declared.faults.MapFault.{MapFault}
use Rattle.imm_base.specs.declared.val.Step.{Step}
use Rattle.imm_base.specs.Answers.{IsKept, map_why}
use Rattle.imm_base.specs.Edits.{Gives}
use Rattle.imm_base.specs.Maps.{Entries}
use Rattle.plain_model.specs.Builders.{Built}
use Rattle.sorted_maps.specs.Ordered.{Ordered}
use Rattle.builders.specs.Changes as base

-- these pairs, whose keys rise in this order
abbrev pub kept : {K V O : Type 0} → O → Entries K V → Ordered K V O
kept order m = record { order = order; pairs = m }

-- the map is kept in this order before and after
module _ {K V O : Type 0} (order : O) where
  abbrev pub Changes : Result Step (MapFault V) → Gives V (Entries K V) → Built (Ordered K V O)
      → Built (Ordered K V O) → Type 0
  Changes = base.Changes map_why (IsKept (λ m. m.pairs) (λ m. m.order) order)
