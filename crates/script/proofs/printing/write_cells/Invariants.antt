use Rattle.std.proofs.Common.{◌≡◌, ◌++◌, take}
use Rattle.std.specs.Prelude.{string_bytes}
use Rattle.std.specs.List.{flat_map}
use Rattle.plain_model.specs.Text.{line, decl_words}
use Rattle.script.proofs.printing.write_cells.Given as goal

abbrev pub invariant-loop-cell : goal.invariant-loop-cell
invariant-loop-cell l = string_bytes l.text ≡ string_bytes l.fn.text ++ flat_map (λ c. line (decl_words c)) (take l.cell-index l.cells)
