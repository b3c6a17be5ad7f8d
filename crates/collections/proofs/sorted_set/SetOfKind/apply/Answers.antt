use Rattle.std.specs.Ordering.{eq_by_cmp}
use Rattle.imm_base.specs.declared.val.Val.{Val}
use Rattle.imm_base.specs.declared.comparers.ValOrder.{ValOrder}
use Rattle.imm_base.specs.Order.{order_cmp}
use Rattle.sorted_sets.specs.Ordered.{Ordered}
use Rattle.plain_model.specs.declared.plain.Kind.TheVariants as kinds
use Rattle.plain_model.specs.Plain.{set_op}
use Rattle.collections.proofs.Sets.{set_judged}
use Rattle.collections.proofs.sorted_set.SetOfKind.apply.Goals as goal

pub returns : goal.returns
returns c =
    let set = c.args.self.now in
    rw c.judged.ensures (set_judged {S = Ordered Val ValOrder} (λ s. s.items) (λ s. s.order) kinds.SSet set.order set.items c.change.result (set_op (order_cmp set.order) (eq_by_cmp (order_cmp set.order)) c.args.op.now set.items) c.change.ensures)
