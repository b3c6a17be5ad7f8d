use Rattle.std.proofs.Common.{◌∙◌}
use Rattle.imm_dictionary.proofs.Entries.{any-pairs}
use Rattle.imm_dictionary.proofs.dict.Dict.contains_value.Goals as goal

pub returns : goal.returns
returns g c =
    let eq = c.args.self.now.eq in
    c.any.ensures
    ∙ any-pairs g.K.Ord.cmp g.V.Ord.cmp g.met.K.Ord.total g.met.V.Ord.total g.met.K.Key.exact g.met.V.Key.exact (g.H.HashEq.same eq) (g.met.H.HashEq.equivalence eq) c.elements.result.now.items c.args.self.now.pairs c.elements.ensures.pairs (λ e. g.V.PartialEq.eq e.1 c.args.value.now)
