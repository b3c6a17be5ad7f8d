use Rattle.std.proofs.Common.{◌≡◌}
use Rattle.version_slots.specs.Cells.{IsIdle}
use Rattle.version_slots_tests.proofs.tests.install_many.Given as goal

abbrev pub invariant-loop : goal.invariant-loop
invariant-loop g l = record {
  table : l.pass.place.table_id ≡ l.cell.table.shared.table_id;
  idle : IsIdle l.pass.place.me.0;
}
