use Rattle.std.proofs.Common.{◌≡◌, ◌++◌, take, string_bytes}
use Rattle.std.specs.List.{flat_map}
use Rattle.plain_model.specs.Generator.{cell_summary_text}
use Rattle.generator.proofs.summaries.put_cells.Given as goal

abbrev pub invariant-loop-cell : goal.invariant-loop-cell
invariant-loop-cell l = string_bytes l.text ≡ string_bytes l.fn.text ++ flat_map cell_summary_text (take l.cell-index l.cells)
