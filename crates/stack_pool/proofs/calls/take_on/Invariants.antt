use Rattle.std.proofs.Common.{◌-◌, ◌≡◌, ℕ, ◌≤◌, List, length, All}
use Rattle.stack_pool.specs.Calls.{HasOwner, probe_steps, found_more}
use Rattle.stack_pool.proofs.calls.take_on.Given as goal

abbrev pub invariant-loop-place : goal.invariant-loop-place
invariant-loop-place g l = record {
  near : l.place ≤ l.places;
  table : l.chair.table_id ≡ l.fn.chair.table_id;
  id : l.chair.id ≡ l.fn.chair.id;
  hand : l.chair.me.1 ≡ l.fn.chair.me.1;
  words : (words : List ℕ) × (length words ≡ l.place) × All HasOwner words × (l.chair.me.0 ≡ found_more l.fn.chair.me.0 (probe_steps 0 words));
}

abbrev pub decreases-loop-place : goal.decreases-loop-place
decreases-loop-place g l = l.places - l.place
