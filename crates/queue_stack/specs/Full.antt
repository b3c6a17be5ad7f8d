-- A full tree as the list of its elements, from the top on.
use Rattle.std.specs.Prelude.{◌≡◌, ℕ, List, [], ◌∷◌, ◌++◌, length}
use Rattle.queue_stack.specs.declared.full.Halves.{Halves}
use Rattle.queue_stack.specs.declared.full.Halves.TheVariants.{Leaf, Fork}

module _ {T : Type 0} where
  -- the elements of both halves
  abbrev pub halves_items : Halves T → List T
  halves_items Leaf = []
  halves_items (Fork left right) = left ++ right

  -- the halves are of one size
  abbrev pub AreLevel : Halves T → Type 0
  AreLevel Leaf = Unit {0}
  AreLevel (Fork left right) = length left ≡ length right

  -- what a node with this top, these halves and this size keeps
  pub record IsFull (top : T) (halves : Halves T) (size : ℕ) : Type 0 where
    pub counted : size ≡ length (top ∷ halves_items halves)
    pub level : AreLevel halves
