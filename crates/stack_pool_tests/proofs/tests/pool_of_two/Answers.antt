use Rattle.stack_pool.proofs.AtHome.{new_none_lent}
use Rattle.stack_pool.proofs.Joins.{popped, still_there}
use Rattle.stack_pool_tests.proofs.tests.pool_of_two.Goals as goal

pub returns-clause-first : goal.returns-clause-first
returns-clause-first g c = let is = c.in-Ok.ensures.seats _ _ (still_there _ _ _ c.in-Some.ensures.items _ _ (popped _ _ _ c.in-Some-pop.ensures.items)) in (is.0, new_none_lent _ 2 _ is.1)

pub returns-clause-second : goal.returns-clause-second
returns-clause-second g c = let is = c.in-Ok.ensures.seats _ _ (popped _ _ _ c.in-Some.ensures.items) in (is.0, new_none_lent _ 2 _ is.1)
