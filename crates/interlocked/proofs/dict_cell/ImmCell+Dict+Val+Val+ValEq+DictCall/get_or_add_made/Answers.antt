use Rattle.std.proofs.Common.{Option, Some, None, subst}
use Rattle.imm_base.specs.declared.val.Val.{Val}
use Rattle.plain_model.specs.declared.commands.PlainCall.TheVariants as calls
use Rattle.plain_model.specs.declared.commands.Probe.TheVariants.{Ran}
use Rattle.interlocked.specs.Factories.{Looks}
use Rattle.interlocked.proofs.FactoryCalls.{always_err, done_idle, done_since, no_memory_since, ran_at}
use Rattle.interlocked.proofs.dict_cell.ImmCell+Dict+Val+Val+ValEq+DictCall.get_or_add_made.Goals as goal

pub returns-in-Some-clause-done : goal.returns-in-Some-clause-done
returns-in-Some-clause-done g c = let a = c.args in let p = a.pass.now in let q = c.look.new.pass in
    done_idle p q a.key c.in-Some.value c.in_ok-found.stamp (subst (λ (o : Option Val). Looks p a.key o q c.in_ok-found.stamp) c.in-Some.is c.in_ok-found.ensures.looks) a.ordinal a.make c.count_call.new.self c.count_call.ensures

pub returns-in_err-reply-clause-memory : goal.returns-in_err-reply-clause-memory
returns-in_err-reply-clause-memory g c = always_err _ (no_memory_since c.args.pass.now c.look.new.pass c.call.new.pass c.in_ok-found.ensures.looks.read.still c.in_err-reply.ensures.memory)

pub returns-clause-done : goal.returns-clause-done
returns-clause-done g c = let a = c.args in
    done_since a.pass.now c.look.new.pass c.call.new.pass c.in_ok-found.ensures.looks.read.still a.ordinal (calls.GetOrAddMade a.key a.make (Ran c.in_ok-found.stamp.position)) c.in_ok-reply.reply c.in_ok-reply.stamp c.in_ok-reply.ensures.done

pub returns-clause-probe : goal.returns-clause-probe
returns-clause-probe g c = let a = c.args in let p = a.pass.now in let q = c.look.new.pass in
    ran_at p q c.call.new.pass a.key c.in_ok-found.stamp (subst (λ (o : Option Val). Looks p a.key o q c.in_ok-found.stamp) c.in_default.is c.in_ok-found.ensures.looks)
    a.ordinal (calls.GetOrAddMade a.key a.make (Ran c.in_ok-found.stamp.position)) c.in_ok-reply.reply c.in_ok-reply.stamp c.in_ok-reply.ensures.done
