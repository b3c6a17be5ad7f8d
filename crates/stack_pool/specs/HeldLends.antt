-- What a lent content ends as, once a reference to it has ended.
use Rattle.std.specs.Borrow.{Lends, Fml, RattleType, MutBor}
use Rattle.stack_pool.specs.declared.seat.Held.{Held}
use Rattle.stack_pool.specs.contracts.seat.Held.{the_row}

module _ (S : RattleType) (held : MutBor (Held S.Denot)) where
  abbrev pub with_content : S.Denot → Held S.Denot
  with_content x = record held.now { content = x }

  abbrev pub lends_held : MutBor S.Denot → Fml
  lends_held r = Lends (the_row S) S held r with_content
