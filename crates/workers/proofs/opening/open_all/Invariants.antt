use Rattle.std.proofs.Common.{◌≡◌, take, map}
use Rattle.workers.specs.Opened.{AreCells, all_passes}
use Rattle.workers.proofs.opening.open_all.Given as goal

abbrev pub invariant-loop-decl : goal.invariant-loop-decl
invariant-loop-decl l = record {
  cells : AreCells l.workers (take l.decl-index l.decls) l.cells.items;
  passes : map (λ its. its.items) l.passes.items ≡ map all_passes l.cells.items;
}
