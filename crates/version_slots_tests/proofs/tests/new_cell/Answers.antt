use Rattle.version_slots.specs.declared.view.View.{View}
use Rattle.version_slots.specs.declared.tokens.Pass.{Pass}
use Rattle.version_slots.specs.Cells.{IsIdle, new_views}
use Rattle.version_slots.proofs.Callers.{all_seen, new_idle}
use Rattle.version_slots_tests.proofs.tests.new_cell.Goals as goal

pub returns-clause-passes : goal.returns-clause-passes
returns-clause-passes g c = let V : Type 0 = View g.row.P-Plain.Denot in let B : Type 0 = Pass g.row.P.Denot g.row.P-Plain.Denot g.P.Payload in let first : g.row.P-Plain.Denot = g.P.Payload.plain c.args.first in
    let idle = all_seen (λ (p : B). p.place.me.0) (λ (v : V). IsIdle v) c.in-Ok.made.1.items (new_views c.args.passes first) c.in-Ok.ensures.passes (new_idle c.args.passes first) in
    λ k d small. (c.in-Ok.ensures.table k d small, idle k d small)
