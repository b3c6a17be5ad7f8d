use Rattle.std.proofs.Common.{◌≡◌, length, take}
use Rattle.collections.proofs.queue.queue_of_elements.Given as goal

abbrev pub invariant-loop-value : goal.invariant-loop-value
invariant-loop-value l = record {
  so_far : l.queue ≡ take l.value-index l.elements;
  counted : length l.queue ≡ l.value-index;
}
