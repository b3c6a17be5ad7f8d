use Rattle.std.proofs.Common.{rules, ◌≡◌, ℕ, List, [], ◌∷◌, ◌++◌, length, refl, ap, ◌∙◌}
use mathlib.Core.Option.{some}
use lib.ListN.{get_elem?}
use Rattle.stack_pool.proofs.Joins.{popped, still_there}
use Rattle.stack_pool.proofs.shared.SharedPool.close.Goals as goal

pub emptied-chair-requires-clause-table : goal.emptied-chair-requires-clause-table
emptied-chair-requires-clause-table g c = (c.requires.seats _ _ (popped _ _ _ c.in-Some.ensures.items)).0

pub emptied-chair-requires-clause-rest : goal.emptied-chair-requires-clause-rest
emptied-chair-requires-clause-rest g c = (c.requires.seats _ _ (popped _ _ _ c.in-Some.ensures.items)).1

pub loop-seat-init : goal.loop-seat-init
loop-seat-init g c = record {
  table = c.emptied-chair.ensures.seat.0 ∙ (c.requires.seats _ _ (popped _ _ _ c.in-Some.ensures.items)).0;
  seats = λ k seat e. c.requires.seats k seat (still_there _ _ _ c.in-Some.ensures.items k seat e);
}

pub emptied-other-requires-clause-table : goal.emptied-other-requires-clause-table
emptied-other-requires-clause-table g c = (c.loop-seat.invariant.seats _ _ (popped _ _ _ c.in-Some-pop.ensures.items)).0

pub emptied-other-requires-clause-rest : goal.emptied-other-requires-clause-rest
emptied-other-requires-clause-rest g c = (c.loop-seat.invariant.seats _ _ (popped _ _ _ c.in-Some-pop.ensures.items)).1

pub gather-requires-clause-table : goal.gather-requires-clause-table
gather-requires-clause-table g c = (
  c.loop-seat.invariant.table,
  c.emptied-other.ensures.seat.0 ∙ (c.loop-seat.invariant.seats _ _ (popped _ _ _ c.in-Some-pop.ensures.items)).0,
  search rules,
)

pub loop-seat-preserved : goal.loop-seat-preserved
loop-seat-preserved g c = record {
  table = c.gather.ensures.seat.0 ∙ c.loop-seat.invariant.table;
  seats = λ k seat e. c.loop-seat.invariant.seats k seat (still_there _ _ _ c.in-Some-pop.ensures.items k seat e);
}
