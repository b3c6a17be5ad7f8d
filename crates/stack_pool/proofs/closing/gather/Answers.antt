use Rattle.std.proofs.Common.{rules}
use Rattle.stack_pool.proofs.Joins.{gathers}
use Rattle.stack_pool.proofs.closing.gather.Goals as goal

pub join_seat-requires : goal.join_seat-requires
join_seat-requires g c = (search rules, search rules, search rules, search rules, gathers _ _ _ _ _ c.requires.empty.0)
