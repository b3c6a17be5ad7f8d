use Rattle.std.proofs.Common.{◌∙◌, ap}
use Rattle.std.proofs.lemmas.Result.{IfOk-weaker}
use Rattle.imm_base.specs.Lists.{sorted}
use Rattle.frozen_sets.proofs.Firsts.{sorted_firsts}
use Rattle.frozen_sets.proofs.kept.kept.Goals as goal

pub returns-clause-items : goal.returns-clause-items
returns-clause-items g c =
    let cmp = g.O.Order.order c.args.order.now in
    let by = g.B.Order.order c.args.by.now in
    IfOk-weaker c.in_order.result _ _ (λ v e. e ∙ ap (sorted cmp) c.in_ok-firsts.ensures.items ∙ sorted_firsts cmp (g.met.O.Order.total c.args.order.now) by c.requires c.args.values.items) c.in_order.ensures.items
