use Rattle.std.specs.Ordering.{eq_by_cmp}
use Rattle.imm_base.specs.declared.val.Val.{Val}
use Rattle.imm_base.specs.declared.comparers.ValOrder.{ValOrder}
use Rattle.imm_base.specs.Order.{order_cmp}
use Rattle.sorted_maps.specs.Ordered.{Ordered}
use Rattle.plain_model.specs.declared.plain.Kind.TheVariants as kinds
use Rattle.plain_model.specs.Plain.{map_op}
use Rattle.collections.proofs.Maps.{map_judged}
use Rattle.collections.proofs.sorted_map.MapOfKind.apply.Goals as goal

pub returns : goal.returns
returns c =
    let map = c.args.self.now in
    rw c.judged.ensures (map_judged {S = Ordered Val Val ValOrder} (λ m. m.pairs) (λ m. m.order) kinds.SMap map.order map.pairs c.change.result (map_op (order_cmp map.order) (eq_by_cmp (order_cmp map.order)) c.args.op.now map.pairs) c.change.ensures)
