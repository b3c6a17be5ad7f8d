use Rattle.std.proofs.Common.{rules, ◌∙◌, ap}
use Rattle.std.specs.List.{dedup}
use Rattle.std.specs.Ordering.{eq_by_cmp}
use Rattle.std.proofs.lemmas.Fn.{dedup_same}
use Rattle.frozen_sets.proofs.Firsts.{firsts_of_sorted}
use Rattle.frozen_sets.proofs.kept.firsts.Goals as goal

pub returns-clause-items : goal.returns-clause-items
returns-clause-items g c =
    let cmp = g.O.Order.order c.args.order.now in
    dedup_same _ (eq_by_cmp cmp) _ (λ x y b f' x' y' k. search rules) _ _ c.dedup_by.ensures.filtered
    ∙ ap (dedup (eq_by_cmp cmp)) c.in_ok-values.ensures.items
    ∙ firsts_of_sorted cmp (g.met.O.Order.total c.args.order.now) c.args.values.items
