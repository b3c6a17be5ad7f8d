use Rattle.std.proofs.Common.{[], arith}
use Rattle.imm_base.proofs.Combined.{union_at_most}
use Rattle.imm_dictionary.proofs.set.ImmHashSet.of_values.Goals as goal

pub unreachable-requires : goal.unreachable-requires
unreachable-requires g c =
    let over = rw (c.in-None.is, c.new-empty.ensures.items, c.new-empty.ensures.eq) at c.in_ok-set.ensures in
    omega (arith, over, c.requires, union_at_most g.T.Ord.cmp (g.H.HashEq.same c.args.eq) [] c.args.values.now)
