use Rattle.std.proofs.Common.{false, Some, None, refl, sym, ◌∙◌}
use Rattle.plain_model.specs.declared.history.Reply.TheVariants.{Flag, Value, Missing}
use Rattle.plain_model.specs.Cell.{try_add}
use Rattle.interlocked.proofs.DictCalls.{P, replied, done_by}
use Rattle.interlocked.proofs.dict.try_add.Goals as goal

pub returns-in-Some : goal.returns-in-Some
returns-in-Some c = let a = c.args in replied a.old.now a.key.now (try_add a.key.now a.value.now (P a.old.now)) (Some c.in-Some.field-0) (sym c.in-Some.is ∙ c.value_in.ensures) (Flag false) refl _ c.answered.ensures

pub returns-in-None : goal.returns-in-None
returns-in-None c = let a = c.args in done_by a.old.now a.key.now (try_add a.key.now a.value.now (P a.old.now)) None (sym c.in-None.is ∙ c.value_in.ensures) _ c.add_if_room.ensures
