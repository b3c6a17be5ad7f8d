-- When the higher side of a node is owned.
use Rattle.std.proofs.Common.{◌≡◌, ℕ, ◌<◌, ◌≤◌, Bool, true, false, arith, refl}
use Rattle.std.proofs.lemmas.Bool.{and_parts, and_from, leb-true, le-leb}
use Rattle.avl_link.specs.Shape.{is_higher_owned}

pub higher_left : (a b : Bool) (l r : ℕ) → is_higher_owned a l b r ≡ true → r < l → a ≡ true
unfolding is_higher_owned
higher_left true b l r h p = refl
higher_left false b l r h p = absurd (let low : l ≤ r = leb-true l r (and_parts _ _ h).0 in omega arith)

pub higher_right : (a b : Bool) (l r : ℕ) → is_higher_owned a l b r ≡ true → l < r → b ≡ true
unfolding is_higher_owned
higher_right a true l r h p = refl
higher_right a false l r h p = absurd (let low : r ≤ l = leb-true r l (and_parts _ _ h).1 in omega arith)

pub both_owned : (l r : ℕ) → is_higher_owned true l true r ≡ true
unfolding is_higher_owned
both_owned l r = refl

pub left_owned : (b : Bool) (l r : ℕ) → r ≤ l → is_higher_owned true l b r ≡ true
unfolding is_higher_owned
left_owned true l r p = refl
left_owned false l r p = le-leb r l p

pub right_owned : (a : Bool) (l r : ℕ) → l ≤ r → is_higher_owned a l true r ≡ true
unfolding is_higher_owned
right_owned true l r p = refl
right_owned false l r p = and_from _ _ (le-leb l r p) refl

pub level_ready : (a b : Bool) (l r : ℕ) → l ≡ r → is_higher_owned a l b r ≡ true
unfolding is_higher_owned
level_ready true true l r p = refl
level_ready true false l r p = le-leb r l (omega arith)
level_ready false true l r p = and_from _ _ (le-leb l r (omega arith)) refl
level_ready false false l r p = and_from _ _ (le-leb l r (omega arith)) (le-leb r l (omega arith))

pub ruleset ready = (higher_left, higher_right, both_owned, left_owned, right_owned, level_ready)
