use Rattle.std.proofs.Common.{◌≡◌, take, []}
use Rattle.std.specs.Prelude.{map}
use Rattle.std.specs.List.{AllByRecursion}
use Rattle.runs.specs.OneThread.{IsSoFar}
use Rattle.runs.proofs.run.cells_of.Given as goal

abbrev pub invariant-loop-decl : goal.invariant-loop-decl
invariant-loop-decl l = record {
  decls : map (λ c. c.decl) l.cells.items ≡ take l.decl-index l.decls;
  so_far : AllByRecursion (IsSoFar 1) l.cells.items;
  lines : AllByRecursion (λ c. c.lines ≡ []) l.cells.items;
}
