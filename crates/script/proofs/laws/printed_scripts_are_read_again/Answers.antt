use Rattle.script.proofs.Printed.{read_again, upgraded_read_again}
use Rattle.script.proofs.laws.printed_scripts_are_read_again.Goals as goal

pub returns-clause-printed : goal.returns-clause-printed
returns-clause-printed c = read_again

pub returns-clause-upgraded : goal.returns-clause-upgraded
returns-clause-upgraded c = upgraded_read_again
