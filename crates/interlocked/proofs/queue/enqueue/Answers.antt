use Rattle.std.proofs.Common.{List, refl, subst, sym}
use Rattle.imm_base.specs.declared.val.Val.{Val}
use Rattle.imm_base.specs.Answers.{Tells}
use Rattle.imm_base.specs.Edits.{empty, too_large}
use Rattle.queue_stack.specs.Answers.{end_why}
use Rattle.queue_stack.specs.declared.fault.EndFault.{EndFault}
use Rattle.imm_base.specs.Lists.{queue_enqueue}
use Rattle.plain_model.specs.declared.plain.Kind.TheVariants.{Queue}
use Rattle.plain_model.specs.declared.commands.PlainCall.TheVariants as calls
use Rattle.interlocked.specs.declared.change.Outcome.{Outcome}
use Rattle.interlocked.specs.Meanings.{listed}
use Rattle.interlocked.specs.Outcomes.{Applies}
use Rattle.interlocked.proofs.Applied.{edited, declined}
use Rattle.interlocked.proofs.queue.enqueue.Goals as goal

pub returns-in-Ok : goal.returns-in-Ok
returns-in-Ok c = let xs : List Val = c.args.old.now in let v : Val = c.args.value in
    subst (λ (o : Outcome (List Val)). Applies (listed Queue) (calls.Enqueue v) (listed Queue xs) o) (sym c.changed.ensures)
    (edited Queue (calls.Enqueue v) xs (queue_enqueue v xs) refl c.in-Ok.edit c.in-Ok.ensures)

pub returns-in-Err-TooLarge : goal.returns-in-Err-TooLarge
returns-in-Err-TooLarge c = let xs : List Val = c.args.old.now in let v : Val = c.args.value in
    subst (λ (o : Outcome (List Val)). Applies (listed Queue) (calls.Enqueue v) (listed Queue xs) o) (sym c.refused.ensures)
    (declined Queue (calls.Enqueue v) xs (queue_enqueue v xs) refl (too_large c.in-Err-TooLarge.count)
    (subst (λ (f : EndFault). Tells end_why f (queue_enqueue v xs)) c.in-Err-TooLarge.field-0-is c.in-Err-TooLarge.ensures))

pub returns-in-Err-Empty : goal.returns-in-Err-Empty
returns-in-Err-Empty c = let xs : List Val = c.args.old.now in let v : Val = c.args.value in
    subst (λ (o : Outcome (List Val)). Applies (listed Queue) (calls.Enqueue v) (listed Queue xs) o) (sym c.refused-in-Err-Empty.ensures)
    (declined Queue (calls.Enqueue v) xs (queue_enqueue v xs) refl empty
    (subst (λ (f : EndFault). Tells end_why f (queue_enqueue v xs)) c.in-Err-Empty.field-0-is c.in-Err-Empty.ensures))
