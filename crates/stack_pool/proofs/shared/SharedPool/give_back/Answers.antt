use Rattle.stack_pool.proofs.AtHome.{given_none_lent, refused_none_lent}
use Rattle.stack_pool.proofs.shared.SharedPool.give_back.Goals as goal

pub returns-in-Ok-clause-none_lent : goal.returns-in-Ok-clause-none_lent
returns-in-Ok-clause-none_lent g c = let got = c.in-Ok.ensures.answer in given_none_lent _ _ _ _ got.0 got.2

pub returns-in-Err-clause-none_lent : goal.returns-in-Err-clause-none_lent
returns-in-Err-clause-none_lent g c = refused_none_lent _ _ _ _ _ c.in-Err.ensures.answer
