use Rattle.std.proofs.Common.{◌∙◌}
use Rattle.imm_dictionary.proofs.Entries.{length-pairs, pairs_are_map}
use Rattle.imm_dictionary.proofs.dict.Dict.count.Goals as goal

pub returns-clause-count : goal.returns-clause-count
returns-clause-count g c =
    let eq = c.args.self.now.eq in
    c.count.ensures.count ∙ length-pairs g.K.Ord.cmp g.V.Ord.cmp g.met.K.Ord.total g.met.V.Ord.total g.met.K.Key.exact g.met.V.Key.exact (g.H.HashEq.same eq) (g.met.H.HashEq.equivalence eq) c.elements.result.now.items c.args.self.now.pairs c.elements.ensures.pairs

pub returns-clause-map : goal.returns-clause-map
returns-clause-map g c =
    let eq = c.args.self.now.eq in
    pairs_are_map g.K.Ord.cmp g.V.Ord.cmp g.met.K.Ord.total g.met.V.Ord.total g.met.K.Key.exact g.met.V.Key.exact (g.H.HashEq.same eq) (g.met.H.HashEq.equivalence eq) c.elements.result.now.items c.args.self.now.pairs c.elements.ensures.pairs (rw c.elements.ensures.eq at c.count.ensures.set.distinct)
