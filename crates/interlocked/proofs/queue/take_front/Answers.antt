use Rattle.std.proofs.Common.{subst, refl}
use Rattle.imm_base.specs.Answers.{Tells}
use Rattle.imm_base.specs.Edits.{empty, too_large}
use Rattle.imm_base.specs.Lists.{remove_first}
use Rattle.queue_stack.specs.Answers.{end_why}
use Rattle.queue_stack.specs.declared.fault.EndFault.{EndFault}
use Rattle.plain_model.specs.declared.plain.Kind.TheVariants.{Queue}
use Rattle.plain_model.specs.declared.commands.PlainCall.TheVariants as calls
use Rattle.interlocked.proofs.Applied.{first_taken, not_empty}
use Rattle.interlocked.proofs.queue.take_front.Goals as goal

pub returns-in-Ok : goal.returns-in-Ok
returns-in-Ok c = first_taken Queue calls.TryDequeue c.args.old.now refl c.args.front c.requires c.in-Ok.edit c.in-Ok.ensures

pub unreachable-requires : goal.unreachable-requires
unreachable-requires c = not_empty c.args.old.now c.args.front c.requires empty
    (subst (λ (f : EndFault). Tells end_why f (remove_first c.args.old.now)) c.in-Err-Empty.field-0-is c.in-Err-Empty.ensures)

pub unreachable-requires-in-Err-TooLarge : goal.unreachable-requires-in-Err-TooLarge
unreachable-requires-in-Err-TooLarge c = not_empty c.args.old.now c.args.front c.requires (too_large c.in-Err-TooLarge.field-0-0)
    (subst (λ (f : EndFault). Tells end_why f (remove_first c.args.old.now)) c.in-Err-TooLarge.field-0-is c.in-Err-TooLarge.ensures)
