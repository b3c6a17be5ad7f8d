use Rattle.imm_base.specs.Sets.{has}
use Rattle.imm_base.proofs.Combined.{filter_none}
use Rattle.imm_dictionary.proofs.set.ImmHashSet.is_subset.Goals as goal

pub returns : goal.returns
returns g c =
    rw (c.count.ensures.count, c.in_ok-others.ensures) (filter_none (λ x. has (g.H.HashEq.same c.args.self.now.eq) x c.args.values.now) c.args.self.now.items)
