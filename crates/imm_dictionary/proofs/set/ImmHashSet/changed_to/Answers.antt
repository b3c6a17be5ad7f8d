use Rattle.std.proofs.Common.{arith}
use Rattle.imm_base.proofs.Changes.{edit_same}
use Rattle.imm_dictionary.proofs.set.ImmHashSet.changed_to.Goals as goal

pub returns-then-count : goal.returns-then-count
returns-then-count g c =
    edit_same g.T.PartialEq.eq g.T.Ord.cmp g.met.T.Ord.matches_eq g.met.T.Eq.laws.refl g.met.T.Key.exact c.args.self.now.items c.args.set.items (c.requires.whole (omega arith))
