use Rattle.std.proofs.lemmas.Result.{MatchResult-weaker}
use Rattle.sorted_maps.proofs.Placing.{ascends, is_at, is_absent_at}
use Rattle.sorted_maps.proofs.map.SortedMap.search.Goals as goal

pub search-requires : goal.search-requires
search-requires g c =
    rw c.order.ensures (ascends (g.O.Order.order c.args.self.now.order) (g.met.O.Order.total _) c.args.key.now c.args.self.now.pairs c.tree.ensures.rise c.tree.result.now.items c.tree.ensures.pairs)

pub returns : goal.returns
returns g c =
    MatchResult-weaker c.search.result (rw c.order.ensures at c.search.ensures)
    (λ i f. is_at (g.O.Order.order c.args.self.now.order) (g.met.O.Order.total _) c.args.key.now c.args.self.now.pairs c.tree.ensures.rise c.tree.result.now.items c.tree.ensures.pairs i f)
    (λ i a. is_absent_at (g.O.Order.order c.args.self.now.order) (g.met.O.Order.total _) c.args.key.now c.args.self.now.pairs c.tree.ensures.rise c.tree.result.now.items c.tree.ensures.pairs i a)
