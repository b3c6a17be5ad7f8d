use Rattle.std.proofs.Common.{◌∙◌}
use Rattle.imm_dictionary.proofs.InOrder.{has-sorted, removed-sorted}
use Rattle.imm_dictionary.proofs.set.ImmHashSet.removed.Goals as goal

pub without-requires-clause-there : goal.without-requires-clause-there
without-requires-clause-there g c =
    let eq = c.args.self.now.eq in
    rw (c.comparer-eq.ensures, c.elements-elements.ensures.eq) (has-sorted g.T.Ord.cmp g.met.T.Ord.total g.met.T.Key.exact (g.H.HashEq.same eq) c.args.value.now c.elements-elements.result.now.items c.args.self.now.items c.elements-elements.ensures.items ∙ c.requires)

pub returns-clause-items : goal.returns-clause-items
returns-clause-items g c =
    let eq = c.args.self.now.eq in
    let made = rw (c.comparer-eq.ensures, c.elements-elements.ensures.eq) at c.in_ok-rest.ensures.items in
    c.of_elements.ensures.items
    ∙ removed-sorted g.T.Ord.cmp g.met.T.Ord.total g.met.T.Key.exact (g.H.HashEq.same eq) c.args.value.now c.elements-elements.result.now.items c.args.self.now.items c.elements-elements.ensures.items (g.met.H.HashEq.equivalence eq) _ made
