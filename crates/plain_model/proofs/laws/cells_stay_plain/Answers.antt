use Rattle.plain_model.proofs.CellsStayPlain.{begins_plain, installs_plain}
use Rattle.plain_model.proofs.laws.cells_stay_plain.Goals as goal

pub returns : goal.returns
returns c = record {
  first = begins_plain;
  installed = installs_plain;
}
