use Rattle.std.proofs.Common.{◌≡◌, ◌+◌, length, drop}
use Rattle.runs.specs.Places.{kinds_of}
use Rattle.runs.proofs.Parts.{InPart}
use Rattle.runs.proofs.worker.run_part.Given as goal

abbrev pub invariant-loop-command : goal.invariant-loop-command
invariant-loop-command g l = record {
  next : l.next ≡ l.ordinal + l.command-index;
  kinds : g.T.Cells.kinds l.cells ≡ kinds_of l.decls;
  ready : g.T.Cells.ready l.cells l.next;
  on : InPart g.T.Cells.makes l.decls l.ordinal l.commands (drop l.command-index l.commands) l.fn.cells l.fn.worker.lines l.next l.cells l.worker;
}
