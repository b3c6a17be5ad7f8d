use Rattle.std.proofs.Common.{◌≡◌, drop}
use Rattle.script.specs.Symbols.{cell_kind}
use Rattle.script.proofs.symbols.cell_kind.Given as goal

abbrev pub invariant-loop-cell : goal.invariant-loop-cell
invariant-loop-cell l = cell_kind (drop l.cell-index l.cells) l.name ≡ cell_kind l.cells l.name
