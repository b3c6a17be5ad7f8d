use Rattle.std.proofs.Common.{◌≡◌, take}
use Rattle.imm_base.specs.Sets.{union}
use Rattle.imm_dictionary.specs.Kept.{kept}
use Rattle.imm_dictionary.proofs.set.ImmHashSet.with_all.Given as goal

abbrev pub invariant-loop-value : goal.invariant-loop-value
invariant-loop-value g l =
    l.set ≡ kept l.fn.self.eq (union g.T.Ord.cmp (g.H.HashEq.same l.fn.self.eq) l.fn.self.items (take l.value-index l.values))
