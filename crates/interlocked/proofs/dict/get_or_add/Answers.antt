use Rattle.std.proofs.Common.{Some, None, refl, sym, ◌∙◌}
use Rattle.plain_model.specs.declared.history.Reply.TheVariants.{Flag, Value, Missing}
use Rattle.plain_model.specs.Cell.{get_or_add}
use Rattle.interlocked.proofs.DictCalls.{P, replied, done_by}
use Rattle.interlocked.proofs.dict.get_or_add.Goals as goal

pub returns-in-Some : goal.returns-in-Some
returns-in-Some c = let a = c.args in replied a.old.now a.key.now (get_or_add a.key.now a.value.now (P a.old.now)) (Some c.in-Some.found) (sym c.in-Some.is ∙ c.value_in.ensures) (Value c.in-Some.found) refl _ c.answered.ensures

pub returns-in-None : goal.returns-in-None
returns-in-None c = let a = c.args in done_by a.old.now a.key.now (get_or_add a.key.now a.value.now (P a.old.now)) None (sym c.in-None.is ∙ c.value_in.ensures) _ c.add_if_room.ensures
