use Rattle.std.proofs.Common.{subst}
use Rattle.plain_model.specs.Cell.{cell}
use Rattle.cell_calls.specs.declared.call.CellCall.{CellCall}
use Rattle.cell_calls.specs.declared.call.CellCall.TheVariants as cells
use Rattle.cell_calls.specs.Calls.{Suits}
use Rattle.cell_calls.proofs.KeptKinds.{call_keeps, outcome_keeps}
use Rattle.cell_calls.proofs.call.CellCall.apply.Goals as goal

pub returns-in-Plain-clause-kind : goal.returns-in-Plain-clause-kind
returns-in-Plain-clause-kind c =
    let p = c.args.old.now in
    let call = c.in-Plain.call in
    outcome_keeps p.kind c.apply_plain.result (cell call p) c.apply_plain.ensures (call_keeps (cells.Plain call) p (subst (λ (x : CellCall). Suits x p.kind) c.in-Plain.is c.requires))
