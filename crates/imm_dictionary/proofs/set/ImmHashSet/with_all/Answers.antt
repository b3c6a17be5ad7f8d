use Rattle.std.proofs.Common.{◌<◌, length, arith}
use Rattle.imm_base.proofs.Combined.{union_over}
use Rattle.imm_dictionary.proofs.set.ImmHashSet.with_all.Goals as goal

pub returns-in_default : goal.returns-in_default
returns-in_default g c =
    let below : c.loop-value.value-index < length c.args.values.now = omega arith in
    let over = rw (c.in_default.is, c.loop-value.invariant) at c.in_ok-more.ensures in
    union_over g.T.Ord.cmp (g.H.HashEq.same c.args.self.eq) c.args.most c.loop-value.value-index c.args.self.items c.args.values.now c.value-item.result below c.value-item.is over
