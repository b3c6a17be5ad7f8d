use Rattle.stack_pool.proofs.AtHome.{taken_none_lent, probed_none_lent}
use Rattle.stack_pool.proofs.shared.SharedPool.take.Goals as goal

pub returns-in-Ok-clause-none_lent : goal.returns-in-Ok-clause-none_lent
returns-in-Ok-clause-none_lent g c = taken_none_lent _ _ _ _ c.in-Ok.ensures.answer.0 c.in-Ok.ensures.answer.1

pub returns-in-Err-clause-none_lent : goal.returns-in-Err-clause-none_lent
returns-in-Err-clause-none_lent g c = probed_none_lent _ _ _ c.in-Err.ensures.answer.1
