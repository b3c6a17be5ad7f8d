use Rattle.std.proofs.Common.{◌∙◌, ap, sym, length, subst}
use Rattle.imm_base.specs.Kept.{IsSet}
use Rattle.imm_base.proofs.Reordered.{length-sorted, set_sorted}
use Rattle.imm_dictionary.proofs.set.ImmHashSet.count.Goals as goal

pub returns-clause-count : goal.returns-clause-count
returns-clause-count g c =
    c.count.ensures.count ∙ sym (length-sorted g.T.Ord.cmp g.met.T.Ord.total g.met.T.Key.exact c.elements.result.now.items) ∙ ap length c.elements.ensures.items

pub returns-clause-set : goal.returns-clause-set
returns-clause-set g c =
    let same = g.H.HashEq.same c.args.self.now.eq in
    let distinct = rw c.elements.ensures.eq at c.count.ensures.set.distinct in
    subst (λ xs. IsSet g.T.Ord.cmp same xs) c.elements.ensures.items (set_sorted g.T.Ord.cmp g.met.T.Ord.total g.met.T.Key.exact same (g.met.H.HashEq.equivalence c.args.self.now.eq) c.elements.result.now.items distinct)
