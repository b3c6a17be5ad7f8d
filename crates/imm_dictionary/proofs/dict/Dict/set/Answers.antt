use Rattle.std.proofs.Common.{sym, ◌∙◌}
use Rattle.std.proofs.lemmas.Result.{IfOk-weaker}
use Rattle.imm_base.proofs.Ranges.{set_absent}
use Rattle.imm_dictionary.proofs.dict.Dict.set.Goals as goal

pub returns-clause-pairs : goal.returns-clause-pairs
returns-clause-pairs g c =
    IfOk-weaker c.with.result _ _ (λ s e. e ∙ sym (set_absent g.K.Ord.cmp (g.H.HashEq.same c.args.self.now.eq) g.V.PartialEq.eq c.args.key.now c.args.value.now c.args.self.now.pairs (sym c.has_pair.ensures ∙ c.if-has_pair.false))) (rw (c.in_ok-key.ensures, c.in_ok-value.ensures) at c.with.ensures.pairs)
