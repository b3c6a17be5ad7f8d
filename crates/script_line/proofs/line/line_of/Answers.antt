use Rattle.script_line.proofs.Within.{lines_within}
use Rattle.script_line.proofs.line.line_of.Goals as goal

pub returns-in-Ok-clause-within : goal.returns-in-Ok-clause-within
returns-in-Ok-clause-within c = lines_within c.line_of_words.result c.in-Ok.keyword _ c.line_of_words.ensures
