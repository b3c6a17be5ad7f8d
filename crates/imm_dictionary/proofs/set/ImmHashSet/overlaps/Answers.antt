use Rattle.std.proofs.Common.{◌∙◌}
use Rattle.imm_base.proofs.Combined.{overlaps_turned}
use Rattle.imm_dictionary.proofs.set.ImmHashSet.overlaps.Goals as goal

pub returns : goal.returns
returns g c =
    c.contains_any.ensures ∙ overlaps_turned (g.H.HashEq.same c.args.self.now.eq) (g.met.H.HashEq.equivalence c.args.self.now.eq) c.args.self.now.items c.args.values.now
