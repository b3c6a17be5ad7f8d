use Rattle.cell_calls.specs.Calls.{plain_call}
use Rattle.seats.proofs.Lines.{call_line}
use Rattle.seats.proofs.places.call_one.Goals as goal

pub returns : goal.returns
returns g c = call_line c.args.pass.now c.note_call.new.pass c.args.ordinal c.args.log.now c.note_call.new.log (plain_call c.args.call) c.in_ok-note_call.ensures c.requires.probe
