use Rattle.std.proofs.Common.{sym, ◌∙◌, arith}
use Rattle.registry.proofs.Closed.{all_made, seats_long, seats_new}
use Rattle.registry.proofs.requests.make_each.Goals as goal

pub responded-seats-requires-clause-new : goal.responded-seats-requires-clause-new
responded-seats-requires-clause-new g c κs within = (seats_new c.args.cell.now c.args.passes.now.items c.requires.passes c.seated-seats.result.items c.seated-seats.ensures.seats, c.requires.suits)

pub responded-seats-requires-clause-same : goal.responded-seats-requires-clause-same
responded-seats-requires-clause-same g c κs within = seats_long c.args.cell.now c.args.passes.now.items c.requires.passes c.seated-seats.result.items c.seated-seats.ensures.seats ∙ sym c.requires.many

pub unseated-requires-clause-responses : goal.unseated-requires-clause-responses
unseated-requires-clause-responses g c = (
  c.requires.responses.0,
  let long = seats_long c.args.cell.now c.args.passes.now.items c.requires.passes c.seated-seats.result.items c.seated-seats.ensures.seats in
      let same = c.responded-seats.ensures.same in
      let many = c.requires.many in
      let room = c.requires.responses.1 in
      omega arith,
)

pub returns : goal.returns
returns g c =
    all_made c.args.cell.now c.args.passes.now.items c.requires.passes c.seated-seats.result.items c.seated-seats.ensures.seats g.C.Share.plain g.X.Change.meaning c.args.requests.now c.responded-seats.result.items c.unseated.new.passes.items
    c.unseated.result.items c.requires.many c.responded-seats.ensures.same c.responded-seats.ensures.made c.unseated.ensures.passes c.unseated.ensures.responses
