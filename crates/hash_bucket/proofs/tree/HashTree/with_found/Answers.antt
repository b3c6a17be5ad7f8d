use Rattle.std.proofs.Common.{◌∙◌, length, arith, ap, sym}
use Rattle.hash_bucket.specs.Buckets.{hash_order}
use Rattle.hash_bucket.proofs.Trees.{length-le-elements, length-with_old, length-with_new}
use Rattle.hash_bucket.proofs.tree.HashTree.with_found.Goals as goal

pub with_value-requires-clause-count_fits : goal.with_value-requires-clause-count_fits
with_value-requires-clause-count_fits g c =
    omega (arith, length-le-elements _ _ _ c.tree.result.now.items c.tree.ensures.buckets.each, ap length c.tree.ensures.items)

pub of_tree-requires-clause-counted : goal.of_tree-requires-clause-counted
of_tree-requires-clause-counted g c =
    let eq = c.args.self.now.eq in
    let made = rw (c.comparer-eq.ensures, c.tree.ensures.items) at c.in_ok-tree.ensures.items in
    c.count-count.ensures.count ∙ sym (ap length made ∙ length-with_old (g.H.HashEq.same eq) (g.met.H.HashEq.equivalence eq) (hash_order g.T.Ord.cmp (g.H.HashEq.hash eq)) c.args.value c.args.self.now.items c.count-count.ensures.set.distinct (sym c.requires ∙ c.if-found.true))

pub of_tree-requires-2-clause-counted : goal.of_tree-requires-2-clause-counted
of_tree-requires-2-clause-counted g c =
    let eq = c.args.self.now.eq in
    let made = rw (c.comparer-eq.ensures, c.tree.ensures.items) at c.in_ok-tree.ensures.items in
    omega (arith, c.count-count.ensures.count, ap length made, length-with_new (g.H.HashEq.same eq) (hash_order g.T.Ord.cmp (g.H.HashEq.hash eq)) c.args.value c.args.self.now.items (sym c.requires ∙ c.if-found.false))

pub returns-then-found-clause-items : goal.returns-then-found-clause-items
returns-then-found-clause-items g c =
    c.of_tree.ensures.items ∙ (rw (c.comparer-eq.ensures, c.tree.ensures.items) at c.in_ok-tree.ensures.items)

pub returns-clause-items : goal.returns-clause-items
returns-clause-items g c =
    c.of_tree-2.ensures.items ∙ (rw (c.comparer-eq.ensures, c.tree.ensures.items) at c.in_ok-tree.ensures.items)
