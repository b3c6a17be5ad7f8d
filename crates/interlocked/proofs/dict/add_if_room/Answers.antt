use Rattle.std.proofs.Common.{sym, subst, ◌∙◌, Bool}
use Rattle.interlocked.specs.declared.change.Outcome.{Outcome}
use Rattle.imm_base.specs.declared.val.Val.{Val}
use Rattle.imm_base.specs.declared.comparers.ValEq.{ValEq}
use Rattle.imm_dictionary.specs.Mapped.{Mapped}
use Rattle.plain_model.specs.Cell.{add_if_room}
use Rattle.interlocked.proofs.DictCalls.{P, Gives, full, room_for}
use Rattle.interlocked.proofs.dict.add_if_room.Goals as goal

pub returns-then-is_full : goal.returns-then-is_full
returns-then-is_full c = let a = c.args in subst (λ (o : Outcome (Mapped Val Val ValEq)). Gives a.old.now (add_if_room a.key.now a.value.now a.reply (P a.old.now)) o) (sym c.refused.ensures)
    (full a.old.now a.key.now a.value.now a.reply (sym c.is_full.ensures ∙ c.if-is_full.true) c.count-count.result c.count-count.ensures.count)

pub returns : goal.returns
returns c = let a = c.args in room_for a.old.now a.key.now a.value.now a.reply (sym c.is_full.ensures ∙ c.if-is_full.false) _ c.put.ensures
