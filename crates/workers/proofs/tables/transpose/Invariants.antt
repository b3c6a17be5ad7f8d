use Rattle.std.proofs.Common.{◌≡◌, ℕ, ◌<◌, ◌++◌, Some, map, length, slice_index_or}
use Rattle.workers.specs.Tables.{entries_at}
use Rattle.workers.proofs.tables.transpose.Given as goal

abbrev pub invariant-loop-row : goal.invariant-loop-row
invariant-loop-row g l = record {
  left : l.yielded ++ l.row-iterator.rest.items ≡ l.fn.rows.items;
  count : length l.row-iterator.rest.items ≡ l.row-iterator.rest.len;
  many : length l.columns.items ≡ l.fn.width;
  each : (c : ℕ) (d : _) → c < l.fn.width → map (λ x. Some x) (slice_index_or l.columns.items c d).items ≡ entries_at c (map (λ row. row.items) l.yielded);
}
