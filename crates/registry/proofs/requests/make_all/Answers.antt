use Rattle.std.proofs.Common.{[]}
use Rattle.registry.proofs.Closed.{all_numbers, of_cell, whole_made}
use Rattle.registry.proofs.requests.make_all.Goals as goal

pub ended-requires-clause-table : goal.ended-requires-clause-table
ended-requires-clause-table g c = of_cell g.C.Share.plain g.X.Change.meaning c.in-Ok.cell c.args.requests.now c.make_each-responses.new.passes.items c.make_each-responses.result.items c.make_each-responses.ensures

pub ended-requires-clause-all : goal.ended-requires-clause-all
ended-requires-clause-all g c = all_numbers g.C.Share.plain g.X.Change.meaning c.in-Ok.cell c.args.requests.now c.make_each-responses.new.passes.items c.make_each-responses.result.items c.make_each-responses.ensures

pub returns : goal.returns
returns g c =
    whole_made g.C.Share.plain g.X.Change.meaning c.in-Ok.cell c.args.requests.now c.make_each-responses.new.passes.items c.make_each-responses.result.items c.make_each-responses.ensures
    (g.C.Share.plain c.args.first) (g.C.Share.plain c.in_ok-last.last) [] c.in-Ok.ensures.cell.1 c.in_ok-last.ensures
