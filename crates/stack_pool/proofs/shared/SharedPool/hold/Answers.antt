use Rattle.stack_pool.proofs.AtHome.{refused_none_lent}
use Rattle.stack_pool.proofs.shared.SharedPool.hold.Goals as goal

pub returns-in-Err-clause-none_lent : goal.returns-in-Err-clause-none_lent
returns-in-Err-clause-none_lent g c = refused_none_lent _ _ _ _ _ c.in-Err.ensures.answer
