use Rattle.std.proofs.Common.{◌≡◌, take}
use Rattle.frozen_sets.proofs.map.turned_round.Given as goal

abbrev pub invariant-loop-pair : goal.invariant-loop-pair
invariant-loop-pair g l = l.copies.items ≡ take l.pair-index l.pairs
