use Rattle.std.proofs.Common.{None, subst}
use Rattle.plain_model.specs.declared.commands.PlainCall.TheVariants as calls
use Rattle.runs.specs.Notes.{Makes}
use Rattle.runs.proofs.Deeds.{kind_within, made_is_done}
use Rattle.runs.proofs.work.get_or_add_made.Goals as goal

pub returns-clause-done : goal.returns-clause-done
returns-clause-done g c =
    let a = c.args in
    let keys = c.requires.keys in
    let probe = c.in_ok-get_or_add_made.field-0 in
    let made = subst (λ k. Makes g.T.Cells.makes a.cells.now k a.ordinal (calls.GetOrAddMade a.key.now a.make.now probe) None c.get_or_add_made.new.self) c.cell_place-place.ensures.place c.in_ok-get_or_add_made.ensures.makes in
    λ w. made_is_done g.T.Cells.makes a.decls.now c.requires.apart a.cells.now c.get_or_add_made.new.self a.cell.now a.ordinal a.key.now a.make.now probe w
    (kind_within a.decls.now a.cell.now keys.kind keys.at) made
