use Rattle.std.proofs.Common.{◌≡◌, length, nat_eq, ap, ◌∙◌}
use Rattle.frozen_sets.specs.Kept.{firsts}
use Rattle.frozen_sets.proofs.Distinct.{distinct_is}
use Rattle.frozen_sets.proofs.choice.are_apart.Goals as goal

pub returns : goal.returns
returns g c =
    let cmp = g.O.Order.order c.args.order.now in
    let keys = c.args.keys.now in
    let kept : c.len.result ≡ length (firsts cmp cmp keys) = c.len.ensures ∙ c.in_ok-kept.kept.ok.0 ∙ ap length (c.in_ok-kept.ensures.items ∙ ap (firsts cmp cmp) c.in_ok-keys.ensures.items) in
    let all : c.len-count.result ≡ length keys = c.len-count.ensures ∙ c.in_ok-keys.ensures.len in
    (λ i. nat_eq (kept i) (all i)) ∙ distinct_is cmp (g.met.O.Order.total c.args.order.now) keys
