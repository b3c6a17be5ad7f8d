use Rattle.std.proofs.Common.{◌≡◌, ◌+◌, ◌≤◌, ◌++◌, [], All, length, map, reverse, vec_capacity, vec_len}
use Rattle.interlocked.specs.Known.{IsReady, Known, uncalled}
use Rattle.interlocked.proofs.passes.wrap.Given as goal

abbrev pub invariant-loop-pass : goal.invariant-loop-pass
invariant-loop-pass g l = record {
  room : length l.passes.items + length l.all.items ≤ vec_capacity l.all;
  new : All (λ p. IsReady p.place.me.0 0) l.passes.items;
  same : map (λ p. uncalled p.place.table_id p.place.me.0) l.fn.passes.items ≡ map (λ p. uncalled p.place.table_id p.place.me.0) l.passes.items ++ reverse (map (λ (k : Known). k) l.all.items);
}

abbrev pub decreases-loop-pass : goal.decreases-loop-pass
decreases-loop-pass g l = vec_len l.passes
