use Rattle.std.proofs.Common.{refl}
use Rattle.std.specs.Prelude.{reverse}
use Rattle.plain_model.specs.declared.plain.Kind.TheVariants as kinds
use Rattle.plain_model.specs.Plain.{elements}
use Rattle.queue_stack.specs.Answers.{end_why}
use Rattle.collections.proofs.Lists.{new_judged}
use Rattle.collections.proofs.stack.stack_of_values.Goals as goal

pub returns : goal.returns
returns c =
    rw c.judged.ensures (new_judged kinds.Stack end_why c.args.values.now (reverse (elements c.args.values.now)) refl c.stack_of_elements.result (rw (c.as_slice.ensures.value, c.in_ok-values.ensures) at c.stack_of_elements.ensures))
