use Rattle.std.proofs.Common.{◌≡◌}
use Rattle.interlocked_tests.proofs.tests.races.ReadsJobStackStackCall.work.Given as goal

abbrev pub invariant-reads : goal.invariant-reads
invariant-reads g l = record {
  table : l.pass.table ≡ l.initial.pass.table;
  number : l.pass.view.number ≡ l.initial.pass.view.number;
}
