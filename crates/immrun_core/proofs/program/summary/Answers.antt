use Rattle.std.proofs.Common.{◌≡◌, subst}
use Rattle.plain_model.specs.declared.report.Script.{Script}
use Rattle.plain_model.specs.Generator.{generated}
use Rattle.plain_model.specs.Lawful.{Lawful}
use Rattle.immrun_core.proofs.Tasks.{memory_stops}
use Rattle.immrun_core.proofs.program.summary.Goals as goal

pub returns-in_err-report : goal.returns-in_err-report
returns-in_err-report c = memory_stops c.args.number c.from_residual-in_err-report.result c.from_residual-in_err-report.ensures.1

pub returns-in_err-text : goal.returns-in_err-text
returns-in_err-text c = memory_stops c.args.number c.from_residual-in_err-text.result c.from_residual-in_err-text.ensures.1

pub returns : goal.returns
returns c q unread =
    let own : c.in_ok-script.script ≡ generated c.args.number = c.in_ok-script.ensures.is in
    record {
      script = c.in_ok-script.script;
      has = (own, unread);
      gives = record {
        report = c.in_ok-report.report;
        lawful = subst (λ (s : Script). Lawful s 1 c.in_ok-report.report) own c.in_ok-report.ensures;
        same = c.in_ok-text.ensures;
      };
    }
