use Rattle.plain_model.proofs.Upgrading.{upgrade_keeps}
use Rattle.plain_model.proofs.laws.upgrade_keeps_reports.Goals as goal

pub returns : goal.returns
returns c = upgrade_keeps
