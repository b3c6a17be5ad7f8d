use Rattle.std.proofs.Common.{◌∙◌, w32, rules}
use Rattle.std.proofs.lemmas.Int.{to_z-of_z}
use Rattle.std.proofs.lemmas.Result.{IfOk-weaker}
use mir.Val.{SFits}
use Rattle.hash_bucket.proofs.Trees.{replaced_more, inserted_more}
use Rattle.hash_bucket.proofs.change.with_value.Goals as goal

pub returns-in_ok-bucket-in-Ok-clause-buckets : goal.returns-in_ok-bucket-in-Ok-clause-buckets
returns-in_ok-bucket-in-Ok-clause-buckets g c =
    let eq = c.args.eq.now in
    let put = c.in_ok-bucket-in-Ok in
    IfOk-weaker c.replaced.result _ _ (λ t e. (replaced_more g.T.Ord.cmp (g.H.HashEq.same eq) (g.H.HashEq.hash eq) g.met.T.Ord.total g.met.T.Key.exact (g.met.H.HashEq.equivalence eq) (g.met.H.HashEq.alike eq) c.of-at.result.hash c.args.value c.of-at.ensures c.args.tree.now.items c.requires.are put.bucket c.in-Ok.bucket.now c.in-Ok.place c.in-Ok.ensures put.ensures.hash put.ensures.items t.items e).0) c.replaced.ensures.items

pub returns-in_ok-bucket-in-Ok-clause-items : goal.returns-in_ok-bucket-in-Ok-clause-items
returns-in_ok-bucket-in-Ok-clause-items g c =
    let eq = c.args.eq.now in
    let put = c.in_ok-bucket-in-Ok in
    IfOk-weaker c.replaced.result _ _ (λ t e. (replaced_more g.T.Ord.cmp (g.H.HashEq.same eq) (g.H.HashEq.hash eq) g.met.T.Ord.total g.met.T.Key.exact (g.met.H.HashEq.equivalence eq) (g.met.H.HashEq.alike eq) c.of-at.result.hash c.args.value c.of-at.ensures c.args.tree.now.items c.requires.are put.bucket c.in-Ok.bucket.now c.in-Ok.place c.in-Ok.ensures put.ensures.hash put.ensures.items t.items e).1) c.replaced.ensures.items

pub returns-in_ok-bucket-in-Err-clause-buckets : goal.returns-in_ok-bucket-in-Err-clause-buckets
returns-in_ok-bucket-in-Err-clause-buckets g c =
    let eq = c.args.eq.now in
    let one = c.in_ok-bucket-in-Err in
    let fits : SFits w32 c.of-at.result.hash = search rules in
    let hash = one.ensures.hash ∙ to_z-of_z w32 c.of-at.result.hash fits in
    IfOk-weaker c.inserted.result _ _ (λ t e. (inserted_more g.T.Ord.cmp (g.H.HashEq.same eq) (g.H.HashEq.hash eq) g.met.T.Ord.total g.met.T.Key.exact (g.met.H.HashEq.equivalence eq) (g.met.H.HashEq.alike eq) c.of-at.result.hash c.args.value c.of-at.ensures c.args.tree.now.items c.requires.are one.bucket c.in-Err.place c.in-Err.ensures hash one.ensures.items t.items e).0) c.inserted.ensures.items

pub returns-in_ok-bucket-in-Err-clause-items : goal.returns-in_ok-bucket-in-Err-clause-items
returns-in_ok-bucket-in-Err-clause-items g c =
    let eq = c.args.eq.now in
    let one = c.in_ok-bucket-in-Err in
    let fits : SFits w32 c.of-at.result.hash = search rules in
    let hash = one.ensures.hash ∙ to_z-of_z w32 c.of-at.result.hash fits in
    IfOk-weaker c.inserted.result _ _ (λ t e. (inserted_more g.T.Ord.cmp (g.H.HashEq.same eq) (g.H.HashEq.hash eq) g.met.T.Ord.total g.met.T.Key.exact (g.met.H.HashEq.equivalence eq) (g.met.H.HashEq.alike eq) c.of-at.result.hash c.args.value c.of-at.ensures c.args.tree.now.items c.requires.are one.bucket c.in-Err.place c.in-Err.ensures hash one.ensures.items t.items e).1) c.inserted.ensures.items
