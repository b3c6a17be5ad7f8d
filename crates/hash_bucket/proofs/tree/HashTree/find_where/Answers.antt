use Rattle.std.proofs.Common.{◌∙◌, ap}
use Rattle.std.specs.Prelude.{find}
use Rattle.hash_bucket.proofs.Trees.{found_in, found_nowhere}
use Rattle.hash_bucket.proofs.tree.HashTree.find_where.Goals as goal

pub returns-in-Ok : goal.returns-in-Ok
returns-in-Ok g c =
    let eq = c.args.self.now.eq in
    let meets = g.S.Seek.meets c.args.sought.now in
    c.find.ensures
    ∙ found_in g.T.Ord.cmp (g.H.HashEq.same eq) (g.H.HashEq.hash eq) c.of-at.result.hash meets (λ x e. c.of-at.ensures ∙ c.requires x e) c.tree.result.now.items c.tree.ensures.buckets c.in-Ok.bucket.now c.in-Ok.ensures.bucket
    ∙ ap (λ xs. find meets xs) c.tree.ensures.items

pub returns-in-Err : goal.returns-in-Err
returns-in-Err g c =
    let eq = c.args.self.now.eq in
    let meets = g.S.Seek.meets c.args.sought.now in
    found_nowhere g.T.Ord.cmp (g.H.HashEq.same eq) (g.H.HashEq.hash eq) c.of-at.result.hash meets (λ x e. c.of-at.ensures ∙ c.requires x e) c.tree.result.now.items c.tree.ensures.buckets c.in-Err.ensures.none
    ∙ ap (λ xs. find meets xs) c.tree.ensures.items
