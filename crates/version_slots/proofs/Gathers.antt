-- What a seat has of the passes that were joined into it.
use Rattle.std.proofs.Common.{◌≡◌, zero, suc, List, [], ◌∷◌, length, ap, ◌∙◌, sym}
use mathlib.Core.Option.{some, some-injective, some-ne-none}
use Rattle.atomic_table.proofs.Lists.{at_longer}
use Rattle.version_slots.specs.declared.view.View.{View}
use Rattle.version_slots.specs.Views.{joined, old}
use Rattle.version_slots.specs.Cells.{AreIn, olds_of}
use Rattle.version_slots.proofs.Shares.{at_middle}

module _ {A : Type 0} where
  pub first_in : (v w : View A) → v ≡ w → AreIn (w ∷ []) (olds_of v)
  first_in v w same zero u e = (0, ap (λ (x : View A). some (old x)) (same ∙ some-injective w u e))
  first_in v w same (suc i) u e = absurd (some-ne-none u (sym e))

  -- what was there stays, and the other seat's comes
  pub next_in : (v w : View A) (xs : List (View A)) → AreIn xs (olds_of v) → AreIn (w ∷ xs) (olds_of (joined v w))
  next_in v w xs all zero u e = (suc (length v.olds), at_middle v.olds w.olds (old w) ∙ ap (λ (x : View A). some (old x)) (some-injective w u e))
  next_in v w xs all (suc i) u e = let t = all i u e in (t.0, at_longer (olds_of v) (old w ∷ w.olds) t.0 (old u) t.1)
