use Rattle.std.proofs.Common.{◌≡◌, ◌+◌, ◌++◌, length}
use Rattle.history_merge.specs.Logs.{weave}
use Rattle.history_merge.proofs.weaving.weave.Given as goal

abbrev pub invariant-loop-line : goal.invariant-loop-line
invariant-loop-line l = weave l.initial.left.items l.initial.right.items ≡ l.lines ++ weave l.left.items l.right.items

abbrev pub decreases-loop-line : goal.decreases-loop-line
decreases-loop-line l = length l.left.items + length l.right.items
