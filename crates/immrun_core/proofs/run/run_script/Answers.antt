use Rattle.immrun_core.proofs.Readiness.{can_run}
use Rattle.immrun_core.proofs.run.run_script.Goals as goal

pub run_script-requires-clause-can : goal.run_script-requires-clause-can
run_script-requires-clause-can g c κs within = can_run c.args.script.now c.requires.ready
