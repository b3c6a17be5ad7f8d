use Rattle.std.proofs.Common.{◌∙◌, ap, sym}
use Rattle.imm_dictionary.specs.Kept.{kept}
use Rattle.imm_dictionary.proofs.InOrder.{difference_whole}
use Rattle.imm_dictionary.proofs.set.ImmHashSet.without_one.Goals as goal

pub returns-else-contains : goal.returns-else-contains
returns-else-contains g c =
    let eq = c.args.self.eq in
    ap (λ xs. kept eq xs) (difference_whole (g.H.HashEq.same eq) (g.met.H.HashEq.equivalence eq) c.args.value.now c.args.self.items (sym c.contains.ensures ∙ c.if-contains.false))
