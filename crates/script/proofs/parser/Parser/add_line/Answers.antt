use Rattle.script.proofs.Steps.{with_line-stopped, with_line-judged}
use Rattle.script.proofs.parser.Parser.add_line.Goals as goal

pub returns-in-Ok : goal.returns-in-Ok
returns-in-Ok c =
    let judged = rw c.in-Ok.is at c.judge.ensures in
    with_line-judged c.args.self.now c.add_judged.new.self c.args.is_last c.args.line c.in-Ok.bound c.add_judged.result judged c.add_judged.ensures

pub returns-in-Err : goal.returns-in-Err
returns-in-Err c =
    let judges = rw c.in-Err.is at c.judge.ensures in
    with_line-stopped c.args.self.now c.args.self.now c.args.is_last c.args.line c.in-Err.stop c.answer.result judges c.answer.ensures
