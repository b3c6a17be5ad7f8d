use Rattle.registry.proofs.Made.{makes_read}
use Rattle.registry.proofs.requests.respond.Goals as goal

pub returns-in_ok-value-in-Read : goal.returns-in_ok-value-in-Read
returns-in_ok-value-in-Read g c =
    rw c.in-Read.is (makes_read g.C.Share.plain g.X.Change.meaning c.args.pass.now c.read.new.pass c.in_ok-value-in-Read.value c.in_ok-value-in-Read.field-0-1 c.in_ok-value-in-Read.ensures.read)
