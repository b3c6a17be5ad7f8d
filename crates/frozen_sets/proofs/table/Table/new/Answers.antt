use Rattle.std.proofs.Common.{◌≡◌, ℕ, ◌+◌, ◌-◌, ◌<◌, length, get_or, set, arith, ap, sym, ◌∙◌, subst}
use Rattle.std.proofs.lemmas.List.{get_or_default, length-set}
use Rattle.frozen_sets.specs.Codes.{bucket_of}
use Rattle.frozen_sets.specs.Table.{AreLinked}
use Rattle.frozen_sets.proofs.Links.{linked_more}
use Rattle.frozen_sets.proofs.table.Table.new.Goals as goal

pub loop-place-preserved : goal.loop-place-preserved
loop-place-preserved c =
    let bucket = bucket_of c.args.buckets.now in
    let keys = c.args.keys.now in
    let firsts = c.loop-place.firsts.items in
    let nexts = c.loop-place.nexts.items in
    let i = c.loop-place.place - 1 in
    let b = c.bucket-bucket.result in
    let here : c.loop-place.place ≡ i + 1 = omega arith in
    let below : i < length keys = omega arith in
    let within : b < length firsts = omega (arith, c.bucket-bucket.ensures.within, c.loop-place.invariant.1) in
    let linked : AreLinked bucket (i + 1) keys firsts nexts = subst (λ (k : ℕ). AreLinked bucket k keys firsts nexts) here c.loop-place.invariant.0 in
    let read : c.index.result.now ≡ get_or firsts b 0 = c.index.ensures ∙ get_or_default firsts b c.index.result.now 0 within in
    let more = linked_more bucket keys i b firsts nexts c.index-keys-place.result below (c.bucket-bucket.ensures.bucket ∙ ap bucket c.index-keys-place.is) within linked in
    (subst (λ (n : ℕ). AreLinked bucket i keys (set firsts b i) (set nexts i n)) (sym read) more, length-set firsts b i ∙ c.loop-place.invariant.1)

pub returns-clause-linked : goal.returns-clause-linked
returns-clause-linked c =
    let start : c.loop-place.place ≡ 0 = omega arith in
    subst (λ (k : ℕ). AreLinked (bucket_of c.args.buckets.now) k c.args.keys.now c.loop-place.firsts.items c.loop-place.nexts.items) start c.loop-place.invariant.0
