use Rattle.std.proofs.Common.{◌<◌, ◌∙◌, ap, sym, length, arith}
use Rattle.imm_dictionary.specs.Kept.{kept}
use Rattle.imm_base.proofs.Combined.{difference_none, difference_next}
use Rattle.imm_dictionary.proofs.set.ImmHashSet.without.Goals as goal

pub loop-value-init : goal.loop-value-init
loop-value-init g c =
    let same = g.H.HashEq.same c.args.self.now.eq in
    c.in_ok-set.ensures ∙ ap (λ xs. kept c.args.self.now.eq xs) (sym (difference_none same c.args.self.now.items))

pub loop-value-preserved : goal.loop-value-preserved
loop-value-preserved g c =
    let same = g.H.HashEq.same c.args.self.now.eq in
    let below : c.loop-value.value-index < length c.args.values.now = omega arith in
    let made = rw c.loop-value.invariant at c.in_ok-set-2.ensures in
    made ∙ ap (λ xs. kept c.args.self.now.eq xs) (difference_next same c.loop-value.value-index c.args.self.now.items c.args.values.now c.value-item.result below c.value-item.is)
