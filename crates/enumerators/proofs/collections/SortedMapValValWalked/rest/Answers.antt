use Rattle.std.proofs.Common.{◌∙◌, ap}
use Rattle.enumerators.proofs.ByHash.{pairs_shown}
use Rattle.enumerators.proofs.collections.SortedMapValValWalked.rest.Goals as goal

pub returns-clause-start : goal.returns-clause-start
returns-clause-start g c =
    c.of.ensures ∙ pairs_shown _ c.tree.result.now.items c.args.self.now.pairs (c.of_list.ensures.whole ∙ ap (λ t. t.items) c.in_ok-tree.ensures) c.tree.ensures.pairs
