use Rattle.std.proofs.Common.{◌≡◌}
use Rattle.cell_speed.proofs.work.call_all.Given as goal

abbrev pub invariant-rounds : goal.invariant-rounds
invariant-rounds g l = record { table : l.pass.table ≡ l.initial.pass.table; number : l.pass.view.number ≡ l.initial.pass.view.number }
