use Rattle.std.proofs.Common.{sym, ◌∙◌}
use Rattle.std.specs.Ordering.{eq_by_cmp}
use denote.Enum.Bare.{sameb}
use Rattle.imm_base.specs.contracts.comparers.ValOrder.{the_type}
use Rattle.imm_base.specs.declared.val.Val.{Val}
use Rattle.imm_base.specs.declared.comparers.ValOrder.{ValOrder}
use Rattle.imm_base.specs.Order.{val_cmp, val_eq, order_cmp}
use Rattle.imm_base.specs.Rekey.{map_rekey}
use Rattle.sorted_maps.specs.Ordered.{Ordered}
use Rattle.plain_model.specs.declared.plain.Kind.TheVariants as kinds
use Rattle.collections.proofs.Maps.{map_judged}
use Rattle.collections.proofs.SortedMaps.{map_rekeyed}
use Rattle.collections.proofs.sorted_map.MapHasComparer.rekeyed.Goals as goal

pub returns : goal.returns
returns c = λ kind is.
    let map = c.args.self.now in
    let order = c.in-Some.order in
    rw (c.judged.ensures, sym (map_rekeyed map.order order c.args.comparer kind map.pairs (sym c.order.ensures ∙ c.in-Some.is) is))
    (map_judged {S = Ordered Val Val ValOrder} (λ m. m.pairs) (λ m. m.order) kinds.SMap order map.pairs c.with_order.result (map_rekey val_cmp (order_cmp order) (eq_by_cmp (order_cmp order)) val_eq (sameb the_type order map.order) map.pairs) c.with_order.ensures)
