use Rattle.std.proofs.Common.{arith, rules, string_bytes}
use Rattle.plain_model.proofs.ReportSteps.{workers_step}
use Rattle.plain_model.proofs.text.report.put_workers.Goals as goal

pub loop-locals-preserved : goal.loop-locals-preserved
loop-locals-preserved c = let p = workers_step (string_bytes c.args.text.now) (string_bytes c.loop-locals.text) (string_bytes c.put_worker.new.text) c.args.workers.now c.loop-locals.locals-index c.loop-locals.worker c.locals-item.result (omega arith) c.locals-item.is c.loop-locals.invariant.0 c.loop-locals.invariant.1 (search rules) in (omega arith, p)
