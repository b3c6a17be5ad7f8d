use Rattle.std.proofs.Common.{◌≡◌}
use Rattle.history_merge.specs.Logs.{woven}
use Rattle.history_merge.proofs.weaving.weave_all.Given as goal

abbrev pub invariant-loop-log : goal.invariant-loop-log
invariant-loop-log l = l.lines ≡ woven l.yielded
