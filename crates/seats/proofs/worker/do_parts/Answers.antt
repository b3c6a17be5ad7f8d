use Rattle.plain_model.specs.Lawful.{parts_of}
use Rattle.seats.proofs.Working.{worked}
use Rattle.seats.proofs.worker.do_parts.Goals as goal

pub returns : goal.returns
returns g c =
    worked c.args.decls.now (parts_of c.args.worker c.args.workers c.args.parts.now) c.args.seat.now c.run_parts.new.cells c.in_ok-lines.lines c.requires.ready c.in_ok-lines.ensures.done
