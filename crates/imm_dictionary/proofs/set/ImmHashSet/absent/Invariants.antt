use Rattle.std.proofs.Common.{◌≡◌, take}
use Rattle.imm_base.specs.Sets.{difference}
use Rattle.imm_dictionary.proofs.set.ImmHashSet.absent.Given as goal

abbrev pub invariant-loop-value : goal.invariant-loop-value
invariant-loop-value g l =
    l.absent.items ≡ difference (g.H.HashEq.same l.self.eq) (take l.value-index l.values) l.self.items
