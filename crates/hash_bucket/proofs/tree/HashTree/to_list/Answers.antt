use Rattle.std.proofs.Common.{◌<◌, ◌∙◌, ◌++◌, length, ap, arith}
use Rattle.std.proofs.lemmas.List.{take_all}
use Rattle.hash_bucket.specs.Buckets.{elements}
use Rattle.hash_bucket.proofs.Elements.{elements_more}
use Rattle.hash_bucket.proofs.tree.HashTree.to_list.Goals as goal

pub loop-bucket-preserved : goal.loop-bucket-preserved
loop-bucket-preserved g c =
    let bs = c.deref-bucket-items.result.now in
    let below : c.loop-bucket.bucket-index < length bs = omega arith in
    c.in_ok-push_copies.ensures ∙ (λ i. c.loop-bucket.invariant i ++ c.items.ensures i)
    ∙ elements_more bs c.loop-bucket.bucket-index c.bucket-item.result below c.bucket-item.is

pub returns : goal.returns
returns g c =
    let bs = c.deref-bucket-items.result.now in
    c.loop-bucket.invariant ∙ ap (λ cs. elements cs) (take_all c.loop-bucket.bucket-index bs (omega arith) ∙ c.deref-bucket-items.ensures.value ∙ c.in_ok-buckets.ensures)
    ∙ c.tree.ensures.items
