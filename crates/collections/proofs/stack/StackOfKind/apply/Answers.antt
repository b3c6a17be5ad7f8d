use Rattle.plain_model.specs.declared.plain.Kind.TheVariants as kinds
use Rattle.plain_model.specs.Plain.{stack_op}
use Rattle.queue_stack.specs.Answers.{end_why}
use Rattle.collections.proofs.Lists.{edit_judged}
use Rattle.collections.proofs.stack.StackOfKind.apply.Goals as goal

pub returns : goal.returns
returns c =
    rw c.judged.ensures (edit_judged kinds.Stack end_why c.args.self.now c.change.result (stack_op c.args.op.now c.args.self.now) c.change.ensures)
