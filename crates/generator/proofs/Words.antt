-- A declaration without values is the cell and its kind.
use Rattle.std.specs.Prelude.{◌≡◌, []}
use Rattle.std.proofs.Common.{ap}
use Rattle.std.proofs.lemmas.List.{append-nil}
use Rattle.plain_model.specs.declared.plain.Values.TheVariants as values
use Rattle.plain_model.specs.declared.report.CellDecl.{CellDecl}
use Rattle.plain_model.specs.Text.{spaced, cell_words, decl_words}

pub without_values : (c : CellDecl) → spaced (decl_words (record c { values = values.List [] })) ≡ spaced (cell_words c)
without_values c = ap spaced (append-nil (cell_words c))
