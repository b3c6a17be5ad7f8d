use Rattle.std.proofs.Common.{◌∙◌, length, arith, ap}
use Rattle.hash_bucket.specs.Rows.{others}
use Rattle.hash_bucket.proofs.Trees.{length-le-elements, length-others}
use Rattle.hash_bucket.proofs.tree.HashTree.without.Goals as goal

pub without_met-requires-clause-count_fits : goal.without_met-requires-clause-count_fits
without_met-requires-clause-count_fits g c =
    omega (arith, length-le-elements _ _ _ c.tree.result.now.items c.tree.ensures.buckets.each, ap length c.tree.ensures.items)

pub of_tree-requires-clause-counted : goal.of_tree-requires-clause-counted
of_tree-requires-clause-counted g c =
    let eq = c.args.self.now.eq in
    let meets = g.S.Seek.meets c.args.sought.now in
    let made = c.in_ok-tree.ensures.items ∙ ap (λ xs. others meets xs) c.tree.ensures.items in
    omega (arith, c.count-count.ensures.count, ap length made, length-others (g.H.HashEq.same eq) meets c.requires.alone c.args.self.now.items c.count-count.ensures.set.distinct c.requires.there)
