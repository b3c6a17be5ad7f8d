use Rattle.std.proofs.Common.{◌≡◌, negsuc, rules}
use Rattle.imm_base.specs.Lists.{search_place}
use Rattle.builders.proofs.list.ListBuilder.binary_search.Goals as goal

pub returns-in-Err : goal.returns-in-Err
returns-in-Err g c =
    let there : search_place (g.O.Order.order c.args.order.now) c.args.value.now c.args.self.now.contents ≡ negsuc c.in-Err.place = (rw c.link.ensures at c.in-Err.ensures).index in
    rw there (search rules)
