use Rattle.std.proofs.Common.{rules}
use denote.Param.Send.{IsSync, sendable}
use Rattle.std.proofs.Crossing.{crosses}
use Rattle.workers.proofs.Sends.{log_send, pass_send, cell_sync}
use Rattle.workers.proofs.working.work_each.Goals as goal

pub at_each-requires-send-S : goal.at_each-requires-send-S
at_each-requires-send-S g c κs within =
    let r : IsSync g.row.R = search rules parts 8 in
    let gate : IsSync g.row.G = search rules parts 8 in
    search (log_send, pass_send, cell_sync, crosses, sendable) depth 60 fits 20000
