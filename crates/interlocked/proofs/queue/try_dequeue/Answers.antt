use Rattle.std.proofs.Common.{List, refl, subst, sym}
use Rattle.imm_base.specs.declared.val.Val.{Val}
use Rattle.plain_model.specs.declared.plain.Kind.TheVariants.{Queue}
use Rattle.plain_model.specs.declared.commands.PlainCall.TheVariants as calls
use Rattle.interlocked.specs.declared.change.Outcome.{Outcome}
use Rattle.interlocked.specs.Meanings.{listed}
use Rattle.interlocked.specs.Outcomes.{Applies}
use Rattle.interlocked.proofs.Applied.{none_taken}
use Rattle.interlocked.proofs.queue.try_dequeue.Goals as goal

pub returns-in-Err : goal.returns-in-Err
returns-in-Err c = let xs : List Val = c.args.old.now in
    subst (λ (o : Outcome (List Val)). Applies (listed Queue) calls.TryDequeue (listed Queue xs) o) (sym c.answered.ensures) (none_taken Queue calls.TryDequeue xs refl c.in-Err.ensures.1)
