use Rattle.plain_model.specs.declared.plain.Kind.TheVariants as kinds
use Rattle.plain_model.specs.Plain.{queue_op}
use Rattle.queue_stack.specs.Answers.{end_why}
use Rattle.collections.proofs.Lists.{edit_judged}
use Rattle.collections.proofs.queue.QueueOfKind.apply.Goals as goal

pub returns : goal.returns
returns c =
    rw c.judged.ensures (edit_judged kinds.Queue end_why c.args.self.now c.change.result (queue_op c.args.op.now c.args.self.now) c.change.ensures)
