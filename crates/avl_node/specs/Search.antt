-- What a binary search of a list finds, by the side on which it has each element.
use Rattle.std.specs.Prelude.{◌≡◌, ℕ, ◌<◌, ◌≤◌, ℤ, pos, negsuc, true, false, List, length, filter, position, slice_get, Some}
use Rattle.std.specs.Option.{option_map_or}
use Rattle.std.specs.Ordering.{is_lt, is_eq}
use Rattle.std.specs.declared.cmp.Ordering.{Ordering}
use Rattle.avl_node.specs.Sides.{lower_bound, is_equal_at}

module _ {T : Type 0} (side : T → Ordering) where
  -- the place of the first element that is equal, or -k - 1 where none is and k are before
  abbrev pub search_index : List T → ℤ
  search_index xs =
      option_map_or pos (position (λ x. is_eq (side x)) xs) (negsuc (length (filter (λ x. is_lt (side x)) xs)))

  -- the first element that is equal stands at i
  pub record IsFoundAt (xs : List T) (i : ℕ) : Type 0 where
    pub place : i ≡ lower_bound side xs
    pub equal : is_equal_at side xs i ≡ true
    pub inside : i < length xs
    pub index : search_index xs ≡ pos i

  -- the first element that is equal is x, and stands at i
  pub record IsElementAt (xs : List T) (x : T) (i : ℕ) : Type 0 where
    pub at : IsFoundAt xs i
    pub element : slice_get xs i ≡ Some x

  -- no element is equal, and i are before
  pub record IsMissingAt (xs : List T) (i : ℕ) : Type 0 where
    pub place : i ≡ lower_bound side xs
    pub equal : is_equal_at side xs i ≡ false
    pub inside : i ≤ length xs
    pub index : search_index xs ≡ negsuc i
