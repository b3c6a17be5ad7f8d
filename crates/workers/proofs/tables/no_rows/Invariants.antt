use Rattle.std.proofs.Common.{◌≡◌, ◌-◌, ◌≤◌, [], All, length}
use Rattle.workers.proofs.tables.no_rows.Given as goal

abbrev pub invariant-loop-alloc : goal.invariant-loop-alloc
invariant-loop-alloc g l = (length l.columns.items ≤ l.width) × All (λ column. column.items ≡ []) l.columns.items

abbrev pub decreases-loop-alloc : goal.decreases-loop-alloc
decreases-loop-alloc g l = l.width - length l.columns.items
