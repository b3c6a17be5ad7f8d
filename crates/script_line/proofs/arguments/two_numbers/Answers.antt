use Rattle.std.proofs.Common.{arith}
use Rattle.script_line.specs.Values.{number}
use Rattle.script_line.proofs.Counted.{two_of_others}
use Rattle.script_line.proofs.arguments.two_numbers.Goals as goal

pub returns-in_default : goal.returns-in_default
returns-in_default c = two_of_others number number c.args.words.now (λ e. omega (arith, c.in_default.len_below))
