use Rattle.std.proofs.Common.{◌≡◌, ◌++◌, take}
use Rattle.imm_array.proofs.copies.put_copies.Given as goal

abbrev pub invariant-loop-value : goal.invariant-loop-value
invariant-loop-value g l = l.into.items ≡ l.initial.into.items ++ take l.value-index l.values
