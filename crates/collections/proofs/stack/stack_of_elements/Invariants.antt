use Rattle.std.proofs.Common.{◌≡◌, length, reverse, take}
use Rattle.collections.proofs.stack.stack_of_elements.Given as goal

abbrev pub invariant-loop-value : goal.invariant-loop-value
invariant-loop-value l = record {
  so_far : l.stack ≡ reverse (take l.value-index l.elements);
  counted : length l.stack ≡ l.value-index;
}
