use Rattle.std.proofs.Common.{◌∙◌, sym}
use Rattle.std.proofs.lemmas.Result.{IfOk-weaker}
use Rattle.imm_base.proofs.Reordered.{sorted_kept}
use Rattle.imm_dictionary.proofs.set.ImmHashSet.in_own_order.Goals as goal

pub returns-clause-items : goal.returns-clause-items
returns-clause-items g c =
    IfOk-weaker c.to_vec.result _ _ (λ v e. e ∙ sym (sorted_kept g.T.Ord.cmp g.met.T.Ord.total g.met.T.Key.exact c.args.self.now.items c.count-count.ensures.set.rises)) c.to_vec.ensures
