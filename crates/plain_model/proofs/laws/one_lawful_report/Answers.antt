use Rattle.plain_model.proofs.OneReport.{has_one_report}
use Rattle.plain_model.proofs.laws.one_lawful_report.Goals as goal

pub returns : goal.returns
returns c = has_one_report
