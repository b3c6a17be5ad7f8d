use Rattle.std.proofs.Common.{◌≡◌, ◌+◌, ◌<◌, ◌^◌, length}
use Rattle.std.specs.Vec.Iter.{into_iter_items, into_iter_len}
use Rattle.builders.proofs.laws.published_stays.Given as goal

abbrev pub invariant-loop-change : goal.invariant-loop-change
invariant-loop-change g l =
    ((g.B.Builder.built l.builder).changes + length (into_iter_items l.change-iterator) < 2 ^ 64)
    × (into_iter_len l.change-iterator ≡ length (into_iter_items l.change-iterator))
