use Rattle.version_slots.specs.Claimable.{AreOut}
use Rattle.version_slots.proofs.words.claimable.Given as goal

abbrev pub invariant-loop-slot : goal.invariant-loop-slot
invariant-loop-slot l = AreOut l.slot l.words
