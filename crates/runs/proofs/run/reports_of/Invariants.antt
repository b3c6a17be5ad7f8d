use Rattle.std.proofs.Common.{◌≡◌}
use Rattle.std.specs.Prelude.{map}
use Rattle.runs.specs.OneThread.{report_of}
use Rattle.runs.proofs.run.reports_of.Given as goal

abbrev pub invariant-loop-cell : goal.invariant-loop-cell
invariant-loop-cell l = l.reports ≡ map report_of l.yielded
