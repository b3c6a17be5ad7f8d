use Rattle.std.proofs.Common.{◌∙◌, ap}
use Rattle.std.specs.Option.{option_map}
use Rattle.imm_dictionary.specs.Mapped.{entry}
use Rattle.imm_dictionary.proofs.Entries.{entry-pair}
use Rattle.imm_dictionary.proofs.dict.Dict.pair.Goals as goal

pub returns : goal.returns
returns g c =
    let eq = c.args.self.now.eq in
    let found = rw (c.comparer-eq.ensures, c.elements-elements.ensures.eq) at c.find_where.ensures in
    ap (option_map entry) found
    ∙ entry-pair g.K.Ord.cmp g.V.Ord.cmp g.met.K.Ord.total g.met.V.Ord.total g.met.K.Key.exact g.met.V.Key.exact (g.H.HashEq.same eq) (g.met.H.HashEq.equivalence eq) c.elements-elements.result.now.items c.args.self.now.pairs c.elements-elements.ensures.pairs (rw c.elements-elements.ensures.eq at c.count-count.ensures.set.distinct) c.args.key.now
