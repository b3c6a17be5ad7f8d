use Rattle.std.proofs.Common.{◌≡◌}
use Rattle.stack_pool.specs.Calls.{NoneLent}
use Rattle.stack_pool_tests.proofs.tests.a_seat_owns_35_places.Given as goal

abbrev pub invariant-loop-content : goal.invariant-loop-content
invariant-loop-content g l = (l.first.chair.table_id ≡ l.pool.table.shared.table_id) × NoneLent l.first.chair.me.0
