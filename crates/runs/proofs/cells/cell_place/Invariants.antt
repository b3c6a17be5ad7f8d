use Rattle.std.proofs.Common.{◌≡◌, ◌+◌, drop}
use Rattle.runs.specs.Places.{cell_place}
use Rattle.runs.proofs.cells.cell_place.Given as goal

abbrev pub invariant-loop-decl : goal.invariant-loop-decl
invariant-loop-decl l = record {
  place : l.place ≡ l.decl-index;
  rest : cell_place (drop l.decl-index l.decls) l.name + l.place ≡ cell_place l.decls l.name;
}
