use Rattle.immrun_core.proofs.Readiness.{can_run}
use Rattle.immrun_core.proofs.run.run_one.Goals as goal

pub run_alone-requires : goal.run_alone-requires
run_alone-requires c =
    let can = can_run c.args.script.now c.requires in
    record { apart = can.apart; begin = can.begin; count = can.count; few = can.few; can = can.can }
