use Rattle.std.proofs.Common.{◌≡◌, take}
use Rattle.imm_base.specs.Sets.{intersection}
use Rattle.imm_dictionary.specs.Kept.{kept}
use Rattle.imm_dictionary.proofs.set.ImmHashSet.within.Given as goal

abbrev pub invariant-loop-value : goal.invariant-loop-value
invariant-loop-value g l =
    l.set ≡ kept l.self.eq (intersection (g.H.HashEq.same l.self.eq) l.self.items (take l.value-index l.values))
