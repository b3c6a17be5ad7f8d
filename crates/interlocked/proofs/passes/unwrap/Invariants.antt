use Rattle.std.proofs.Common.{◌≡◌, ◌+◌, ◌≤◌, ◌++◌, All, length, map, reverse, vec_capacity, vec_len}
use Rattle.version_slots.specs.Cells.{IsIdle}
use Rattle.interlocked.specs.Known.{Known, pair}
use Rattle.interlocked.proofs.passes.unwrap.Given as goal

abbrev pub decreases-loop-pass : goal.decreases-loop-pass
decreases-loop-pass g l = vec_len l.passes

abbrev pub invariant-loop-pass-2 : goal.invariant-loop-pass-2
invariant-loop-pass-2 g l = record {
  room : length l.passes.items + length l.all.items ≤ vec_capacity l.all;
  idle : All (λ p. IsIdle p.place.me.0) l.all.items;
  same : map (λ (k : Known). pair k.table k.view) l.fn.passes.items ≡ map (λ (k : Known). pair k.table k.view) l.passes.items ++ reverse (map (λ p. pair p.place.table_id p.place.me.0) l.all.items);
}

abbrev pub decreases-loop-pass-2 : goal.decreases-loop-pass-2
decreases-loop-pass-2 g l = vec_len l.passes
