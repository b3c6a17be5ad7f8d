use Rattle.std.proofs.Common.{◌∙◌, ap, sym, length}
use Rattle.imm_base.proofs.Combined.{union_whole}
use Rattle.imm_dictionary.proofs.set.ImmHashSet.union_with.Goals as goal

pub changed_to-requires-clause-whole : goal.changed_to-requires-clause-whole
changed_to-requires-clause-whole g c = λ e.
    let cmp = g.T.Ord.cmp in
    let made = rw (c.in-Some.is, c.in_ok-share.ensures) at c.in_ok-set.ensures in
    let items = ap (λ s. s.items) made.0 in
    items ∙ union_whole cmp (g.H.HashEq.same c.args.self.now.eq) c.args.self.now.items c.args.values.now (ap length (sym items) ∙ e)
