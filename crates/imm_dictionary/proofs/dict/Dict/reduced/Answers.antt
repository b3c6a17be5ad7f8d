use Rattle.std.proofs.Common.{◌∙◌, sym}
use Rattle.imm_dictionary.proofs.Entries.{has_key-pairs, without-pairs}
use Rattle.imm_dictionary.proofs.dict.Dict.reduced.Goals as goal

pub without-requires-clause-there : goal.without-requires-clause-there
without-requires-clause-there g c =
    let eq = c.args.self.now.eq in
    rw (c.comparer-eq.ensures, c.elements-elements.ensures.eq) (sym (has_key-pairs g.K.Ord.cmp g.V.Ord.cmp g.met.K.Ord.total g.met.V.Ord.total g.met.K.Key.exact g.met.V.Key.exact (g.H.HashEq.same eq) (g.met.H.HashEq.equivalence eq) c.elements-elements.result.now.items c.args.self.now.pairs c.elements-elements.ensures.pairs c.args.key.now) ∙ c.requires)

pub returns-clause-pairs : goal.returns-clause-pairs
returns-clause-pairs g c =
    let eq = c.args.self.now.eq in
    let made = rw (c.comparer-eq.ensures, c.elements-elements.ensures.eq) at c.in_ok-rest.ensures.items in
    c.of_elements.ensures.pairs
    ∙ without-pairs g.K.Ord.cmp g.V.Ord.cmp g.met.K.Ord.total g.met.V.Ord.total g.met.K.Key.exact g.met.V.Key.exact (g.H.HashEq.same eq) (g.met.H.HashEq.equivalence eq) c.elements-elements.result.now.items c.args.self.now.pairs c.elements-elements.ensures.pairs c.args.key.now _ made
