use Rattle.std.proofs.Common.{◌∙◌, ap, sym}
use Rattle.imm_base.specs.Sets.{same_in}
use Rattle.imm_base.proofs.Reordered.{same_in-sorted}
use Rattle.imm_dictionary.proofs.set.ImmHashSet.actual.Goals as goal

pub returns : goal.returns
returns g c =
    let same = g.H.HashEq.same c.args.self.now.eq in
    let items = c.elements-elements.result.now.items in
    let distinct = rw c.elements-elements.ensures.eq at c.count-count.ensures.set.distinct in
    (rw c.elements-elements.ensures.eq at c.find.ensures)
    ∙ sym (same_in-sorted g.T.Ord.cmp g.met.T.Ord.total g.met.T.Key.exact same (g.met.H.HashEq.equivalence c.args.self.now.eq) c.args.value.now items distinct)
    ∙ ap (λ xs. same_in same c.args.value.now xs) c.elements-elements.ensures.items
