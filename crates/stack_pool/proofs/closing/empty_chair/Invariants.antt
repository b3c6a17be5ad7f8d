use Rattle.std.proofs.Common.{◌≡◌, ◌-◌, ℕ, ◌<◌, ◌≤◌, length}
use Rattle.stack_pool.specs.Views.{number_at}
use Rattle.stack_pool.specs.Calls.{NoneLent}
use Rattle.stack_pool.proofs.closing.empty_chair.Given as goal

abbrev pub invariant-loop-place : goal.invariant-loop-place
invariant-loop-place g l = record {
  near : l.place ≤ l.places;
  table : l.chair.table_id ≡ l.fn.chair.table_id;
  id : l.chair.id ≡ l.fn.chair.id;
  hand : l.chair.me.1 ≡ l.fn.chair.me.1;
  long : length l.chair.me.0.kept ≡ length l.fn.chair.me.0.kept;
  number : l.chair.me.0.number ≡ l.fn.chair.me.0.number;
  rest : NoneLent l.chair.me.0;
  empty : (q : ℕ) → q < l.place → number_at l.chair.me.0 q ≡ 0;
}

abbrev pub decreases-loop-place : goal.decreases-loop-place
decreases-loop-place g l = l.places - l.place
