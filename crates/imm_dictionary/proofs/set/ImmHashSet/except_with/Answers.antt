use Rattle.std.proofs.Common.{◌∙◌, ap, sym, not, length}
use Rattle.imm_base.specs.Sets.{has}
use Rattle.imm_base.proofs.Combined.{filter_whole}
use Rattle.imm_dictionary.proofs.set.ImmHashSet.except_with.Goals as goal

pub changed_to-requires-clause-whole : goal.changed_to-requires-clause-whole
changed_to-requires-clause-whole g c = λ e.
    let items = ap (λ s. s.items) c.in_ok-set.ensures in
    items ∙ filter_whole (λ x. not (has (g.H.HashEq.same c.args.self.now.eq) x c.args.values.now)) c.args.self.now.items (ap length (sym items) ∙ e)
