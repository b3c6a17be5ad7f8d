use Rattle.std.proofs.Common.{◌≡◌}
use Rattle.stack_pool.specs.Calls.{NoneLent}
use Rattle.stack_pool_tests.proofs.tests.take_and_give.Given as goal

abbrev pub invariant-loop-content : goal.invariant-loop-content
invariant-loop-content g l = (l.seat.chair.table_id ≡ l.pool.table.shared.table_id) × NoneLent l.seat.chair.me.0
