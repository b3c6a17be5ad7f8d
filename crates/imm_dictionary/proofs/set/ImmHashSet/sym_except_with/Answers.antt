use Rattle.std.proofs.Common.{ap}
use Rattle.imm_base.proofs.SymmetricRow.{symmetric_row_same, symmetric_row_new}
use Rattle.imm_dictionary.proofs.set.ImmHashSet.sym_except_with.Goals as goal

pub returns-then-is_empty : goal.returns-then-is_empty
returns-then-is_empty g c =
    let cmp = g.T.Ord.cmp in
    let made = rw (c.in-Some.is, c.in_ok-rest.ensures, c.as_slice.ensures.value, c.in_ok-absent.ensures) at c.in_ok-set.ensures in
    symmetric_row_same g.T.PartialEq.eq g.T.Ord.cmp g.met.T.Ord.matches_eq g.met.T.Eq.laws.refl g.met.T.Key.exact cmp (g.H.HashEq.same c.args.self.now.eq) (g.met.H.HashEq.equivalence c.args.self.now.eq) c.args.values.now c.args.self.now.items c.in-Some.set.items c.if-is_empty.ensures (ap (λ s. s.items) made.0) made.1

pub returns : goal.returns
returns g c =
    let cmp = g.T.Ord.cmp in
    let made = rw (c.in-Some.is, c.in_ok-rest.ensures, c.as_slice.ensures.value, c.in_ok-absent.ensures) at c.in_ok-set.ensures in
    (symmetric_row_new g.T.PartialEq.eq g.T.Ord.cmp g.met.T.Ord.matches_eq g.met.T.Eq.laws.refl g.met.T.Key.exact cmp (g.H.HashEq.same c.args.self.now.eq) (g.met.H.HashEq.equivalence c.args.self.now.eq) c.args.values.now c.args.self.now.items c.in-Some.set.items c.if-is_empty.ensures (ap (λ s. s.items) made.0) made.1, ap (λ s. s.eq) made.0)
