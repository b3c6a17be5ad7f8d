use Rattle.std.proofs.Common.{◌∙◌, ap}
use Rattle.std.proofs.lemmas.Result.{IfOk-weaker}
use Rattle.imm_base.specs.Lists.{insert_sorted}
use Rattle.hash_bucket.specs.Rows.{others}
use Rattle.hash_bucket.proofs.bucket.Bucket.put.Goals as goal

pub returns-clause-items : goal.returns-clause-items
returns-clause-items g c =
    let same = g.H.HashEq.same c.args.eq.now c.args.value in
    let kept = c.in_ok-items.ensures ∙ ap (λ xs. others same xs) c.items.ensures in
    IfOk-weaker c.of.result _ _ (λ b e. e ∙ c.in_ok-items-2.ensures ∙ ap (λ xs. insert_sorted g.T.Ord.cmp c.args.value xs) kept) c.of.ensures.items
