use Rattle.std.proofs.Common.{rules}
use Rattle.imm_base.proofs.Sorting.{sort_by_is}
use Rattle.frozen_sets.proofs.kept.in_order.Goals as goal

pub returns-clause-items : goal.returns-clause-items
returns-clause-items g c =
    sort_by_is (g.O.Order.order c.args.order.now) (g.met.O.Order.total c.args.order.now) c.args.values.items _ c.in_ok-sort_by.ensures.sorted c.in_ok-sort_by.ensures.stable (λ a r f' k. search rules)
