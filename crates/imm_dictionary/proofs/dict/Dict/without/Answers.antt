use Rattle.std.proofs.Common.{◌∙◌, ap, sym}
use Rattle.std.proofs.lemmas.Result.{IfOk-weaker}
use Rattle.imm_base.proofs.KeptMaps.{none_out}
use Rattle.imm_dictionary.proofs.dict.Dict.without.Goals as goal

pub returns-else-has_key-clause-pairs : goal.returns-else-has_key-clause-pairs
returns-else-has_key-clause-pairs g c =
    IfOk-weaker c.share.result _ _ (λ s e. ap (λ t. t.pairs) e ∙ sym (none_out (g.H.HashEq.same c.args.self.now.eq) c.args.key.now c.args.self.now.pairs (sym c.has_key.ensures ∙ c.if-has_key.false))) c.share.ensures
