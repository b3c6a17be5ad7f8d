use Rattle.std.proofs.Common.{◌≡◌, ◌≤◌}
use Rattle.interlocked_tests.proofs.tests.races.UpdatesJobMapDictCall.work.Given as goal

abbrev pub invariant-loop-before : goal.invariant-loop-before
invariant-loop-before g l = record {
  table : l.pass.table ≡ l.initial.pass.table;
  number : l.pass.view.number ≡ l.initial.pass.view.number;
  last : l.pass.last ≤ l.before;
}
