use Rattle.std.proofs.Common.{◌∙◌}
use Rattle.hash_bucket.specs.Buckets.{hash_order}
use Rattle.imm_dictionary.proofs.InOrder.{inserted-sorted}
use Rattle.imm_dictionary.proofs.set.ImmHashSet.inserted.Goals as goal

pub returns-clause-items : goal.returns-clause-items
returns-clause-items g c =
    let eq = c.args.self.now.eq in
    let made = rw c.elements.ensures.eq at c.in_ok-elements.ensures.items in
    c.of_elements.ensures.items
    ∙ inserted-sorted g.T.Ord.cmp g.met.T.Ord.total g.met.T.Key.exact (g.H.HashEq.same eq) c.args.value c.elements.result.now.items c.args.self.now.items c.elements.ensures.items (hash_order g.T.Ord.cmp (g.H.HashEq.hash eq)) _ c.requires made
