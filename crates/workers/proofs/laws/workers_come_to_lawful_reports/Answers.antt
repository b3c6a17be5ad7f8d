use Rattle.workers.proofs.Reports.{is_lawful}
use Rattle.workers.proofs.laws.workers_come_to_lawful_reports.Goals as goal

pub returns : goal.returns
returns c = is_lawful
