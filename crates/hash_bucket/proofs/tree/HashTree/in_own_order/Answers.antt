use Rattle.std.proofs.Common.{◌∙◌, ap}
use Rattle.imm_base.specs.Lists.{sorted}
use Rattle.imm_base.proofs.Sorting.{stable_sort_is}
use Rattle.hash_bucket.proofs.tree.HashTree.in_own_order.Goals as goal

pub returns : goal.returns
returns g c =
    stable_sort_is g.T.Ord.cmp g.met.T.Ord.total c.in_ok-values.values.items _ c.in_ok-sort.ensures.sorted c.in_ok-sort.ensures.stable
    ∙ ap (λ xs. sorted g.T.Ord.cmp xs) c.in_ok-values.ensures
