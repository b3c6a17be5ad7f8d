use Rattle.std.proofs.Common.{Bool, true, false, Some, None, IfOk, refl, sym, subst, ◌∙◌, if◌then◌else◌}
use Rattle.imm_base.specs.declared.val.Val.{Val}
use Rattle.plain_model.specs.declared.history.Reply.TheVariants.{Flag}
use Rattle.plain_model.specs.Cell.{try_update, with_value, install_and_reply, reply_only}
use Rattle.interlocked.proofs.DictCalls.{P, Gives, replied, done_by}
use Rattle.interlocked.proofs.dict.try_update.Goals as goal

pub returns-in-Some : goal.returns-in-Some
returns-in-Some c = let a = c.args in
    done_by a.old.now a.key.now (try_update a.key.now a.value.now a.comparison.now (P a.old.now)) (Some c.in-Some.found) (sym c.in-Some.is ∙ c.value_in.ensures) _
    (subst (λ (b : Bool). IfOk c.put_where.result (Gives a.old.now (if b then install_and_reply (with_value a.key.now a.value.now (P a.old.now)) (Flag true) else reply_only (Flag false)))) c.eq.ensures c.put_where.ensures)

pub returns-in-None : goal.returns-in-None
returns-in-None c = let a = c.args in replied a.old.now a.key.now (try_update a.key.now a.value.now a.comparison.now (P a.old.now)) None (sym c.in-None.is ∙ c.value_in.ensures) (Flag false) refl _ c.answered.ensures
