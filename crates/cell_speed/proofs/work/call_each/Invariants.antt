use Rattle.std.proofs.Common.{◌≡◌}
use Rattle.cell_speed.proofs.work.call_each.Given as goal

abbrev pub invariant-calls : goal.invariant-calls
invariant-calls g l = record { table : l.pass.table ≡ l.initial.pass.table; number : l.pass.view.number ≡ l.initial.pass.view.number }
