-- A skew-binary list as the list of its elements: those of its first tree, and then the rest.
use Rattle.std.specs.Prelude.{◌≡◌, ℕ, ◌<◌, ◌≤◌, ◌^◌, List, [], ◌++◌, length}
use Rattle.queue_stack.specs.declared.skew.Front.{Front}
use Rattle.queue_stack.specs.declared.skew.Front.TheVariants.{Empty, More}

module _ {T : Type 0} where
  abbrev pub front_items : Front T → List T
  front_items Empty = []
  front_items (More spine) = spine.value.tree ++ spine.value.rest

  -- the count is that of all elements, no tree is empty, and there are not too many elements
  pub record IsCounted (tree rest : List T) (count : ℕ) : Type 0 where
    pub counted : count ≡ length (tree ++ rest)
    pub some : 0 < length tree
    pub few : length (tree ++ rest) ≤ 2 ^ 46

  abbrev pub IsFrontCounted : Front T → Type 0
  IsFrontCounted Empty = Unit {0}
  IsFrontCounted (More spine) = IsCounted spine.value.tree spine.value.rest spine.value.count
