use Rattle.std.proofs.Common.{◌∙◌}
use Rattle.imm_dictionary.proofs.InOrder.{has-sorted}
use Rattle.imm_dictionary.proofs.set.ImmHashSet.contains.Goals as goal

pub returns : goal.returns
returns g c =
    (rw c.elements.ensures.eq at c.has.ensures)
    ∙ has-sorted g.T.Ord.cmp g.met.T.Ord.total g.met.T.Key.exact (g.H.HashEq.same c.args.self.now.eq) c.args.value.now c.elements.result.now.items c.args.self.now.items c.elements.ensures.items
