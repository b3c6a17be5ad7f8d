use Rattle.script_line.proofs.WrittenLines.{line_again}
use Rattle.script_line.proofs.laws.written_lines_are_read_again.Goals as goal

pub returns : goal.returns
returns c = line_again
