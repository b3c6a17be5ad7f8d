use Rattle.std.proofs.Common.{◌≡◌, ◌-◌, map}
use Rattle.std.specs.Prelude.{find}
use Rattle.plain_model.specs.Frozen.{numbers_from, tells_apart, text_bytes}
use Rattle.frozen_sets.proofs.choice.start_of.Given as goal

abbrev pub invariant-loop-start : goal.invariant-loop-start
invariant-loop-start l =
    find (λ i. tells_apart (map text_bytes l.keys) (i, l.len)) (numbers_from l.start (l.count - l.start)) ≡ find (λ i. tells_apart (map text_bytes l.keys) (i, l.len)) (numbers_from 0 l.count)
