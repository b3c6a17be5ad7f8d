use Rattle.std.proofs.Common.{◌∙◌, sym, subst}
use Rattle.imm_base.specs.Kept.{Rises}
use Rattle.imm_base.specs.Order.{val_cmp}
use Rattle.imm_base.specs.OrderLaws.{val_cmp_total, val_exact}
use Rattle.hash_bucket.specs.Buckets.{hash_order}
use Rattle.enumerators.proofs.ByHash.{values_back, values_shown}
use Rattle.enumerators.proofs.collections.ImmHashSetValWalked.rest.Goals as goal

pub returns-clause-start : goal.returns-clause-start
returns-clause-start g c =
    let hash = g.H.HashEq.hash in
    let items = c.elements-elements.result.now.items in
    let eq = c.args.self.now.eq in
    let rises = subst (λ e. Rises (hash_order val_cmp (hash e)) items) c.elements-elements.ensures.eq c.count-count.ensures.set.rises in
    let back = values_back val_cmp (hash eq) val_cmp_total val_exact items c.args.self.now.items rises c.elements-elements.ensures.items in
    c.of.ensures ∙ values_shown _ _ (c.in_ok-series.ensures.whole ∙ sym back)
