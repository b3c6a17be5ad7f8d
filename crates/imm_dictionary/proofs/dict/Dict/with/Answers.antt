use Rattle.std.proofs.Common.{◌∙◌}
use Rattle.std.specs.Ordering.{on, int_cmp, then_cmp}
use Rattle.imm_base.specs.Kept.{pair_cmp}
use Rattle.imm_dictionary.proofs.Entries.{with-pairs}
use Rattle.imm_dictionary.proofs.dict.Dict.with.Goals as goal

pub returns-clause-pairs : goal.returns-clause-pairs
returns-clause-pairs g c =
    let eq = c.args.self.now.eq in
    let made = rw c.elements.ensures.eq at c.in_ok-elements.ensures.items in
    c.of_elements.ensures.pairs
    ∙ with-pairs g.K.Ord.cmp g.V.Ord.cmp g.met.K.Ord.total g.met.V.Ord.total g.met.K.Key.exact g.met.V.Key.exact (g.H.HashEq.same eq) (g.met.H.HashEq.equivalence eq) c.elements.result.now.items c.args.self.now.pairs c.elements.ensures.pairs (then_cmp (on (λ e. g.H.HashEq.hash eq e.0) int_cmp) (pair_cmp g.K.Ord.cmp g.V.Ord.cmp)) (record { key = c.args.key; value = c.args.value }) _ made
