use Rattle.std.proofs.Common.{sym, ◌∙◌}
use Rattle.std.specs.Ordering.{eq_by_cmp}
use denote.Enum.Bare.{sameb}
use Rattle.imm_base.specs.contracts.comparers.ValOrder.{the_type}
use Rattle.imm_base.specs.declared.val.Val.{Val}
use Rattle.imm_base.specs.declared.comparers.ValOrder.{ValOrder}
use Rattle.imm_base.specs.Order.{val_cmp, order_cmp}
use Rattle.imm_base.specs.Rekey.{set_rekey}
use Rattle.sorted_sets.specs.Ordered.{Ordered}
use Rattle.plain_model.specs.declared.plain.Kind.TheVariants as kinds
use Rattle.collections.proofs.Sets.{set_judged}
use Rattle.collections.proofs.SortedSets.{set_rekeyed}
use Rattle.collections.proofs.sorted_set.SetHasComparer.rekeyed.Goals as goal

pub returns : goal.returns
returns c = λ kind is.
    let set = c.args.self.now in
    let order = c.in-Some.order in
    rw (c.judged.ensures, sym (set_rekeyed set.order order c.args.comparer kind set.items (sym c.order.ensures ∙ c.in-Some.is) is))
    (set_judged {S = Ordered Val ValOrder} (λ s. s.items) (λ s. s.order) kinds.SSet order set.items c.with_order.result (set_rekey val_cmp (order_cmp order) (eq_by_cmp (order_cmp order)) (sameb the_type order set.order) set.items) c.with_order.ensures)
