use Rattle.std.proofs.Common.{◌∙◌, sym, subst}
use Rattle.std.specs.Ordering.{on, ordering_then}
use Rattle.imm_base.specs.Kept.{Rises, AreDistinct}
use Rattle.imm_base.specs.Order.{val_cmp}
use Rattle.imm_base.specs.OrderLaws.{val_cmp_total, val_exact}
use Rattle.hash_bucket.specs.Buckets.{hash_order}
use Rattle.enumerators.proofs.ByHash.{pairs_back, pairs_shown}
use Rattle.enumerators.proofs.collections.DictValValWalked.rest.Goals as goal

pub returns-clause-start : goal.returns-clause-start
returns-clause-start g c =
    let hash = g.H.HashEq.hash in
    let same = g.H.HashEq.same in
    let items = c.elements-elements.result.now.items in
    let eq = c.args.self.now.eq in
    let rises = subst (λ e. Rises (hash_order (λ p q. ordering_then (val_cmp p.key q.key) (val_cmp p.value q.value)) (λ p. hash e p.key)) items) c.elements-elements.ensures.eq c.count-set.ensures.set.rises in
    let distinct = subst (λ e. AreDistinct (on (λ p. p.key) (same e)) items) c.elements-elements.ensures.eq c.count-set.ensures.set.distinct in
    let back = pairs_back val_cmp val_cmp (hash eq) val_cmp_total val_cmp_total val_exact val_exact (same eq) (g.met.H.HashEq.equivalence eq)
    items c.args.self.now.pairs rises distinct c.elements-elements.ensures.pairs c.count-map.ensures.map.distinct in
    c.of.ensures ∙ pairs_shown _ items _ c.in_ok-series.ensures.whole (sym back)
