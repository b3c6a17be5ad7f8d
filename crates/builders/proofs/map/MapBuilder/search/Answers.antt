use Rattle.std.proofs.lemmas.Result.{MatchResult-weaker}
use Rattle.sorted_maps.proofs.Placing.{ascends, is_at, is_absent_at}
use Rattle.builders.proofs.map.MapBuilder.search.Goals as goal

pub search-requires : goal.search-requires
search-requires g c =
    rw c.order.ensures (ascends (g.O.Order.order c.args.self.now.contents.order) (g.met.O.Order.total _) c.args.key.now c.args.self.now.contents.pairs c.link.ensures.rise c.link.result.now.items c.link.ensures.pairs)

pub returns : goal.returns
returns g c =
    MatchResult-weaker c.search.result (rw c.order.ensures at c.search.ensures)
    (λ i f. is_at (g.O.Order.order c.args.self.now.contents.order) (g.met.O.Order.total _) c.args.key.now c.args.self.now.contents.pairs c.link.ensures.rise c.link.result.now.items c.link.ensures.pairs i f)
    (λ i a. is_absent_at (g.O.Order.order c.args.self.now.contents.order) (g.met.O.Order.total _) c.args.key.now c.args.self.now.contents.pairs c.link.ensures.rise c.link.result.now.items c.link.ensures.pairs i a)
