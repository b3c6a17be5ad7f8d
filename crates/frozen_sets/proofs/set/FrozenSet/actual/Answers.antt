use Rattle.std.proofs.Common.{◌∙◌, slice_get, sym}
use Rattle.imm_base.specs.Order.{eq_same}
use Rattle.frozen_sets.proofs.Found.{found, got, not_found}
use Rattle.frozen_sets.proofs.set.FrozenSet.actual.Goals as goal

pub returns-in-Some : goal.returns-in-Some
returns-in-Some c =
    got c.elements.result.now c.in-Some.place c.get.result c.get.ensures.lookup.0 c.get.ensures.lookup.1 ∙ (λ i. slice_get (c.elements.ensures.elements i) c.in-Some.place)
    ∙ found (eq_same c.args.self.now.eq c.args.value.now) c.args.self.now.items c.in-Some.place (sym c.in-Some.ensures)

pub returns-in-None : goal.returns-in-None
returns-in-None c = not_found (eq_same c.args.self.now.eq c.args.value.now) c.args.self.now.items (sym c.in-None.ensures)
