use Rattle.std.proofs.Common.{◌+◌, ◌<◌, ◌∙◌, List, length, take, arith, ap, sym, subst}
use Rattle.imm_base.specs.Sets.{has, intersection}
use Rattle.imm_base.proofs.KeptSets.{length-filter_most}
use Rattle.imm_dictionary.specs.Kept.{kept}
use Rattle.imm_dictionary.proofs.InCommon.{intersection_next, intersection_none}
use Rattle.imm_dictionary.proofs.set.ImmHashSet.within.Goals as goal

pub loop-value-init : goal.loop-value-init
loop-value-init g c =
    let eq = c.new-set.ensures.eq ∙ c.comparer.ensures in
    let items = c.new-set.ensures.items ∙ sym (intersection_none (g.H.HashEq.same c.args.self.now.eq) c.args.self.now.items) in
    λ i. kept (eq i) (items i)

pub unreachable-requires : goal.unreachable-requires
unreachable-requires g c =
    let same = g.H.HashEq.same c.args.self.now.eq in
    let below : c.loop-value.value-index < length c.args.values.now = omega arith in
    let over = rw (c.in_default.is, c.loop-value.invariant) at c.in_ok-more.ensures in
    let next = intersection_next g.T.Ord.cmp same g.met.T.Ord.total (g.met.H.HashEq.equivalence c.args.self.now.eq) c.loop-value.value-index c.args.self.now.items c.args.values.now c.value-item.result c.count-count.ensures.set below c.value-item.is in
    let longer : length c.args.self.now.items < length (intersection same c.args.self.now.items (take (c.loop-value.value-index + 1) c.args.values.now)) = subst (λ (xs : List g.row.T.Denot). length c.args.self.now.items < length xs) next over in
    omega (arith, longer, length-filter_most (λ x. has same x (take (c.loop-value.value-index + 1) c.args.values.now)) c.args.self.now.items)

pub loop-value-preserved : goal.loop-value-preserved
loop-value-preserved g c =
    let same = g.H.HashEq.same c.args.self.now.eq in
    let below : c.loop-value.value-index < length c.args.values.now = omega arith in
    let made = rw (c.in-Some.is, c.loop-value.invariant) at c.in_ok-more.ensures in
    made ∙ ap (λ xs. kept c.args.self.now.eq xs) (intersection_next g.T.Ord.cmp same g.met.T.Ord.total (g.met.H.HashEq.equivalence c.args.self.now.eq) c.loop-value.value-index c.args.self.now.items c.args.values.now c.value-item.result c.count-count.ensures.set below c.value-item.is)
