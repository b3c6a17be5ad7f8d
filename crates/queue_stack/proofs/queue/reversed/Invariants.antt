use Rattle.std.proofs.Common.{◌≡◌, ◌++◌, reverse}
use Rattle.queue_stack.proofs.queue.reversed.Given as goal

abbrev pub invariant-loop-value : goal.invariant-loop-value
invariant-loop-value g l = (l.turned ≡ reverse l.yielded) × (l.yielded ++ l.value-iterator.rest.items ≡ l.fn.list)
