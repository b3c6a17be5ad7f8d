use Rattle.std.proofs.lemmas.Result.{MatchResult-weaker}
use Rattle.sorted_sets.proofs.Placing.{sorted_from_rises, is_at, is_absent_at}
use Rattle.builders.proofs.set.SetBuilder.search.Goals as goal

pub search_by-requires : goal.search_by-requires
search_by-requires g c =
    rw (c.order.ensures, c.link.ensures.items) (sorted_from_rises (g.O.Order.order c.args.self.now.contents.order) (g.met.O.Order.total _) c.args.self.now.contents.items c.link.ensures.set.rises)

pub returns : goal.returns
returns g c =
    MatchResult-weaker c.search_by.result (rw (c.order.ensures, c.link.ensures.items) at c.search_by.ensures)
    (λ i f. is_at (g.O.Order.order c.args.self.now.contents.order) (g.met.O.Order.total _) c.args.value.now c.args.self.now.contents.items i c.link.ensures.set f)
    (λ i m. is_absent_at (g.O.Order.order c.args.self.now.contents.order) (g.met.O.Order.total _) c.args.value.now c.args.self.now.contents.items i c.link.ensures.set m)
