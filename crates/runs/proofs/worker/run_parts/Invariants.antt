use Rattle.std.proofs.Common.{◌≡◌, ◌+◌, ◌*◌, ◌≤◌, take}
use Rattle.runs.specs.Places.{kinds_of}
use Rattle.runs.specs.Works.{WorkIsDone, ordinal_after}
use Rattle.runs.proofs.Parts.{parts_for}
use Rattle.runs.proofs.worker.run_parts.Given as goal

abbrev pub invariant-loop-part : goal.invariant-loop-part
invariant-loop-part g l = record {
  place : l.place ≡ l.part-index + 1;
  low : l.ordinal ≤ l.part-index * 4096 + 1;
  next : l.ordinal ≡ ordinal_after 1 (parts_for l.number l.workers 1 (take l.part-index l.parts));
  kinds : g.T.Cells.kinds l.cells ≡ kinds_of l.decls;
  ready : g.T.Cells.ready l.cells l.ordinal;
  done : WorkIsDone g.T.Cells.makes l.decls (parts_for l.number l.workers 1 (take l.part-index l.parts)) l.fn.cells l.cells l.worker.lines;
}
