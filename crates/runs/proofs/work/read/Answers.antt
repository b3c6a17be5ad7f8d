use Rattle.std.proofs.Common.{◌≡◌, refl, subst, Some}
use Rattle.std.specs.Prelude.{slice_get}
use Rattle.plain_model.specs.declared.commands.PlainCall.TheVariants as calls
use Rattle.runs.specs.Places.{kinds_of}
use Rattle.runs.specs.Notes.{Makes}
use Rattle.runs.proofs.Deeds.{read_is_done}
use Rattle.runs.proofs.work.read.Goals as goal

pub returns-clause-done : goal.returns-clause-done
returns-clause-done g c =
    let p = c.in_ok-value.value in
    let made = subst (λ k. Makes g.T.Cells.makes c.args.cells.now k c.args.ordinal calls.Read (Some p) c.read.new.self) c.cell_place-place.ensures.place c.in_ok-value.ensures.makes in
    let kind = subst (λ ks. slice_get ks c.cell_place-place.result ≡ Some p.kind) c.requires.kinds c.in_ok-value.ensures.kind in
    let kind_there = subst (λ k. slice_get (kinds_of c.args.decls.now) k ≡ Some p.kind) c.cell_place-place.ensures.place kind in
    read_is_done g.T.Cells.makes c.args.decls.now c.requires.apart c.args.cells.now c.read.new.self c.args.cell.now c.args.ordinal c.args.name.now p c.args.worker.now _
    c.requires.place made c.in_ok-value.ensures.set kind_there c.in_ok-bind_collection.ensures.ok refl
