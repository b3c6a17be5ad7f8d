use Rattle.std.proofs.Common.{◌∙◌, sym}
use Rattle.hash_bucket.specs.Buckets.{hash_order}
use Rattle.hash_bucket.proofs.Trees.{add_absent}
use Rattle.hash_bucket.proofs.tree.HashTree.add.Goals as goal

pub returns : goal.returns
returns g c =
    let eq = c.args.self.now.eq in
    (add_absent (g.H.HashEq.same eq) (hash_order g.T.Ord.cmp (g.H.HashEq.hash eq)) c.args.value c.args.self.now.items _ (sym c.has.ensures ∙ c.if-has.false) (sym c.is_full.ensures ∙ c.if-is_full.false) c.in_ok-with_found.ensures.items, c.in_ok-with_found.ensures.eq)
