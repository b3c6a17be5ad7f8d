-- What a link's form is seen as, and what holds of it.
use Rattle.std.specs.Prelude.{◌≡◌, ℕ, ◌+◌, ◌≤◌, max, Bool, true, false, ◌||◌, ◌&&◌, nat_le, List, [], ◌∷◌, ◌++◌, length}
use Rattle.avl_node.specs.Shape.{DifferByAtMost, least_count}
use Rattle.avl_link.specs.Held.{Held}
use Rattle.avl_link.specs.declared.link.Form.{Form}
use Rattle.avl_link.specs.declared.link.Form.TheVariants.{Empty, Owned, Frozen}
use Rattle.avl_link.specs.declared.link.Own.{Own}

-- whether the higher side, if there is one, is owned
unfoldable pub is_higher_owned : Bool → ℕ → Bool → ℕ → Bool
is_higher_owned left_owned left right_owned right = (left_owned || nat_le left right) &&
    (right_owned || nat_le right left)

module _ {T : Type 0} where
  -- the list of a node with these sides
  abbrev pub items_of : Held T → T → Held T → List T
  items_of left value right = left.items ++ value ∷ right.items

  -- what an owned node is seen as
  abbrev pub held_own : Own T → Held T
  held_own node = record {
    items = items_of node.left node.value node.right;
    height = node.height;
    is_owned = true;
    is_ready = is_higher_owned node.left.is_owned node.left.height node.right.is_owned
        node.right.height;
  }

  -- what a link of that form is seen as
  abbrev pub held : Form T → Held T
  held Empty = record { items = []; height = 0; is_owned = false; is_ready = false }
  held (Owned node) = held_own node.value
  held (Frozen tree) = record {
    items = tree.items;
    height = tree.height;
    is_owned = false;
    is_ready = false;
  }

  -- the stored height and count of an owned node are right, and its sides differ by at most one
  abbrev pub IsAvlNode : Own T → Type 0
  IsAvlNode node =
      (node.height ≡ max node.left.height node.right.height + 1)
      × (node.count ≡ length (items_of node.left node.value node.right))
      × DifferByAtMost 1 node.left.height node.right.height
      × (least_count node.height ≤ length (items_of node.left node.value node.right))

  -- an owned node is in order; of a frozen tree its own type says so
  abbrev pub IsAvl : Form T → Type 0
  IsAvl Empty = Unit {0}
  IsAvl (Owned node) = IsAvlNode node.value
  IsAvl (Frozen tree) = Unit {0}
