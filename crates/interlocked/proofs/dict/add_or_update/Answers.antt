use Rattle.std.proofs.Common.{Some, None, IfOk, sym, subst, ◌∙◌}
use Rattle.imm_base.specs.declared.val.Val.{Val}
use Rattle.plain_model.specs.Cell.{add_or_update, put_unless_equal}
use Rattle.interlocked.proofs.DictCalls.{P, Gives, done_by}
use Rattle.interlocked.proofs.dict.add_or_update.Goals as goal

pub returns-in-Some : goal.returns-in-Some
returns-in-Some c = let a = c.args in let u : Val = c.in-Some.found in
    done_by a.old.now a.key.now (add_or_update a.key.now a.value.now a.transform.now (P a.old.now)) (Some u) (sym c.in-Some.is ∙ c.value_in.ensures) _
    (subst (λ (w : Val). IfOk c.put_unless_equal.result (Gives a.old.now (put_unless_equal a.key.now u w (P a.old.now)))) c.on-new.ensures c.put_unless_equal.ensures)

pub returns-in-None : goal.returns-in-None
returns-in-None c = let a = c.args in done_by a.old.now a.key.now (add_or_update a.key.now a.value.now a.transform.now (P a.old.now)) None (sym c.in-None.is ∙ c.value_in.ensures) _ c.add_if_room.ensures
