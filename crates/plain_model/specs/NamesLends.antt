-- What names end as, once a reference to what one of them is bound to has ended.
use Rattle.std.specs.Prelude.{◌≡◌, ℕ, Option, OnSome}
use Rattle.std.specs.Borrow.{Lends, LendsSo, Fml, RattleType, MutBor}
use Rattle.plain_model.specs.Names.{Name, Bindings, with_name, with_value_at}
use Rattle.plain_model.specs.contracts.names.Names.{the_row}

module _ (T : RattleType) (names : MutBor (Bindings T.Denot)) where
  abbrev pub lends_value : ℕ → MutBor T.Denot → Fml
  lends_value place r = Lends (the_row T) T names r (λ w. with_value_at place w names.now)

  -- the same by name, where it is bound; else they stay as they are
  abbrev pub lends_get : Name → Option (MutBor T.Denot) → Fml
  lends_get x r = LendsSo (the_row T) T names r (λ n w. OnSome r (n ≡ with_name x w names.now)) (λ n. n ≡ names.now)
