use Rattle.std.proofs.Common.{◌≡◌}
use Rattle.interlocked_tests.proofs.tests.cells.ExhaustsJobScarceCount.work.Given as goal

abbrev pub invariant-shares : goal.invariant-shares
invariant-shares g l = record {
  table : l.pass.table ≡ l.initial.pass.table;
  number : l.pass.view.number ≡ l.initial.pass.view.number;
  last : l.pass.last ≡ l.initial.pass.last;
}
