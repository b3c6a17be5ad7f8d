use Rattle.avl_node.proofs.Sortedness.{ascend_from_sorted}
use Rattle.avl_link.proofs.link.Link.search_by.Goals as goal

pub search-requires : goal.search-requires
search-requires g c =
    ascend_from_sorted (g.O.Order.order c.args.order.now) (g.met.O.Order.total c.args.order.now) c.args.value.now c.args.self.now.items c.requires
