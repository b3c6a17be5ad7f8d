use Rattle.std.proofs.Common.{◌≡◌, take}
use Rattle.workers.specs.Opened.{no_logs}
use Rattle.workers.proofs.opening.new_logs.Given as goal

abbrev pub invariant-loop-cell : goal.invariant-loop-cell
invariant-loop-cell l = l.logs.items ≡ no_logs (take l._cell-index l.cells)
