use Rattle.std.proofs.Common.{◌≡◌, ◌++◌, drop, length, map}
use Rattle.workers.specs.Closed.{AreClosedTo}
use Rattle.workers.specs.Hands.{columns_of}
use Rattle.workers.proofs.closing.close_all.Given as goal

abbrev pub invariant-loop-cell : goal.invariant-loop-cell
invariant-loop-cell l = record {
  left : l.yielded ++ l.cell-iterator.rest.items ≡ l.fn.cells.items;
  count : length l.cell-iterator.rest.items ≡ l.cell-iterator.rest.len;
  place : l.place ≡ length l.yielded;
  passes : l.passes.rest.items ≡ drop l.place l.fn.passes.items;
  passes_count : length l.passes.rest.items ≡ l.passes.rest.len;
  logs : l.logs.rest.items ≡ drop l.place l.fn.logs.items;
  logs_count : length l.logs.rest.items ≡ l.logs.rest.len;
  closed : AreClosedTo l.place l.decls l.fn.cells.items (columns_of (map (λ its. its.items) l.fn.passes.items) (map (λ its. its.items) l.fn.logs.items)) l.reports;
}
