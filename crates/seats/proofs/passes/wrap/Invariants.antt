use Rattle.std.proofs.Common.{◌≡◌, ◌+◌, ◌≤◌, ◌++◌, length, reverse, vec_capacity, vec_len}
use Rattle.seats.proofs.passes.wrap.Given as goal

abbrev pub invariant-loop-pass : goal.invariant-loop-pass
invariant-loop-pass l = record {
  room : length l.passes.items + length l.all.items ≤ vec_capacity l.all;
  same : l.fn.passes.items ≡ l.passes.items ++ reverse l.all.items;
}

abbrev pub decreases-loop-pass : goal.decreases-loop-pass
decreases-loop-pass l = vec_len l.passes
