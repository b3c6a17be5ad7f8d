use Rattle.std.proofs.Common.{Some, None, refl, sym, ◌∙◌}
use Rattle.plain_model.specs.declared.history.Reply.TheVariants.{Flag, Value, Missing}
use Rattle.plain_model.specs.Cell.{try_remove}
use Rattle.interlocked.proofs.DictCalls.{P, replied, done_by}
use Rattle.interlocked.proofs.dict.try_remove.Goals as goal

pub returns-in-Some : goal.returns-in-Some
returns-in-Some c = let a = c.args in done_by a.old.now a.key.now (try_remove a.key.now (P a.old.now)) (Some c.in-Some.found) (sym c.in-Some.is ∙ c.value_in.ensures) _ c.take.ensures

pub returns-in-None : goal.returns-in-None
returns-in-None c = let a = c.args in replied a.old.now a.key.now (try_remove a.key.now (P a.old.now)) None (sym c.in-None.is ∙ c.value_in.ensures) Missing refl _ c.answered.ensures
