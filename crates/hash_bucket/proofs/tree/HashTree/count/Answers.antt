use Rattle.std.proofs.Common.{subst}
use Rattle.imm_base.specs.Kept.{IsSet}
use Rattle.hash_bucket.specs.Hashed.{Hashed}
use Rattle.hash_bucket.specs.Buckets.{hash_order}
use Rattle.hash_bucket.proofs.Trees.{elements_set}
use Rattle.hash_bucket.proofs.tree.HashTree.count.Goals as goal

pub returns-clause-set : goal.returns-clause-set
returns-clause-set g c =
    let eq = c.self.inside.eq in
    subst (λ (d : Hashed _ _). IsSet (hash_order g.T.Ord.cmp (g.H.HashEq.hash d.eq)) (g.H.HashEq.same d.eq) d.items) c.self.view_is
    (elements_set g.T.Ord.cmp (g.H.HashEq.same eq) (g.H.HashEq.hash eq) g.met.T.Ord.total (g.met.H.HashEq.alike eq) c.self.inside.tree.items c.self.invariant.buckets.rise c.self.invariant.buckets.each)
