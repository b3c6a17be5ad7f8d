use Rattle.std.proofs.Common.{◌∙◌, ap}
use Rattle.std.proofs.lemmas.Result.{IfOk-weaker}
use Rattle.avl_node.specs.Listed.{Listed}
use Rattle.hash_bucket.specs.Buckets.{elements}
use Rattle.hash_bucket.proofs.Trees.{replaced_less, removed_less, same_less, no_answer}
use Rattle.hash_bucket.proofs.change.without_met.Goals as goal

pub returns-in_default-clause-items : goal.returns-in_default-clause-items
returns-in_default-clause-items g c =
    let eq = c.args._eq.now in
    IfOk-weaker c.share.result _ _ (λ t e. ap (λ (d : Listed _). elements d.items) e ∙ (same_less g.T.Ord.cmp (g.H.HashEq.same eq) (g.H.HashEq.hash eq) c.of-at.result.hash (g.S.Seek.meets c.args.sought.now) (λ x e. c.of-at.ensures ∙ c.requires.alike x e) c.args.tree.now.items c.requires.are c.in_default.field-0 c.in_default.ensures).1) c.share.ensures

pub returns-then-is_empty-clause-buckets : goal.returns-then-is_empty-clause-buckets
returns-then-is_empty-clause-buckets g c =
    let eq = c.args._eq.now in
    let rest = c.in_ok-rest in
    IfOk-weaker c.removed.result _ _ (λ t e. (removed_less g.T.Ord.cmp (g.H.HashEq.same eq) (g.H.HashEq.hash eq) c.of-at.result.hash (g.S.Seek.meets c.args.sought.now) (λ x e. c.of-at.ensures ∙ c.requires.alike x e) c.args.tree.now.items c.requires.are c.in-Ok.bucket.now c.in-Ok.place c.in-Ok.ensures rest.rest rest.ensures.hash rest.ensures.items t.items (c.is_empty.ensures.0 c.if-is_empty.true) e).0) c.removed.ensures.items

pub returns-then-is_empty-clause-items : goal.returns-then-is_empty-clause-items
returns-then-is_empty-clause-items g c =
    let eq = c.args._eq.now in
    let rest = c.in_ok-rest in
    IfOk-weaker c.removed.result _ _ (λ t e. (removed_less g.T.Ord.cmp (g.H.HashEq.same eq) (g.H.HashEq.hash eq) c.of-at.result.hash (g.S.Seek.meets c.args.sought.now) (λ x e. c.of-at.ensures ∙ c.requires.alike x e) c.args.tree.now.items c.requires.are c.in-Ok.bucket.now c.in-Ok.place c.in-Ok.ensures rest.rest rest.ensures.hash rest.ensures.items t.items (c.is_empty.ensures.0 c.if-is_empty.true) e).1) c.removed.ensures.items

pub returns-else-is_empty-clause-buckets : goal.returns-else-is_empty-clause-buckets
returns-else-is_empty-clause-buckets g c =
    let eq = c.args._eq.now in
    let rest = c.in_ok-rest in
    IfOk-weaker c.replaced.result _ _ (λ t e. (replaced_less g.T.Ord.cmp (g.H.HashEq.same eq) (g.H.HashEq.hash eq) c.of-at.result.hash (g.S.Seek.meets c.args.sought.now) (λ x e. c.of-at.ensures ∙ c.requires.alike x e) c.args.tree.now.items c.requires.are c.in-Ok.bucket.now c.in-Ok.place c.in-Ok.ensures rest.rest rest.ensures.hash rest.ensures.items t.items (λ none. no_answer c.is_empty.result (c.is_empty.ensures.1 none) c.if-is_empty.false) e).0) c.replaced.ensures.items

pub returns-else-is_empty-clause-items : goal.returns-else-is_empty-clause-items
returns-else-is_empty-clause-items g c =
    let eq = c.args._eq.now in
    let rest = c.in_ok-rest in
    IfOk-weaker c.replaced.result _ _ (λ t e. (replaced_less g.T.Ord.cmp (g.H.HashEq.same eq) (g.H.HashEq.hash eq) c.of-at.result.hash (g.S.Seek.meets c.args.sought.now) (λ x e. c.of-at.ensures ∙ c.requires.alike x e) c.args.tree.now.items c.requires.are c.in-Ok.bucket.now c.in-Ok.place c.in-Ok.ensures rest.rest rest.ensures.hash rest.ensures.items t.items (λ none. no_answer c.is_empty.result (c.is_empty.ensures.1 none) c.if-is_empty.false) e).1) c.replaced.ensures.items
