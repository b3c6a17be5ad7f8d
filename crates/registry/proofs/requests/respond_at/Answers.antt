use Rattle.std.proofs.Common.{rules}
use Rattle.registry.proofs.Made.{made_at}
use Rattle.registry.proofs.requests.respond_at.Goals as goal

pub returns : goal.returns
returns g c =
    made_at g.C.Share.plain g.X.Change.meaning c.args.requests.now c.args.index c.index-requests-index.result c.args.seat.now (record { pass = c.respond.new.pass; response = c.ok.result })
    (search rules) (rw c.ok.ensures.value c.respond.ensures)
