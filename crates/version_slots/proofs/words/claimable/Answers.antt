use Rattle.std.proofs.Common.{◌<◌, List, ℕ, subst, arith}
use Rattle.version_slots.specs.Claimable.{IsClaimableAt}
use Rattle.version_slots.proofs.Gates.{claimable}
use Rattle.version_slots.proofs.words.claimable.Goals as goal

pub returns-clause-some : goal.returns-clause-some
returns-clause-some c h = let t = claimable {P = Unit {0}} (λ _. tt) (λ _ _ _. Unit {0}) h.0 tt h.1 h.2 in let near = t.1 in let end = c.loop-slot-test.false in
    let below : t.0 < c.loop-slot.slot = omega arith in
    absurd (c.loop-slot.invariant t.0 below (subst (λ (words : List ℕ). IsClaimableAt words t.0) h.3 t.2))
