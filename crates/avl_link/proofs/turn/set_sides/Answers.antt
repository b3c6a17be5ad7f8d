use Rattle.std.proofs.Common.{◌≡◌, ◌∷◌, ◌+◌, arith, max, length-append}
use Rattle.avl_node.proofs.Height.{least_count_append}
use Rattle.avl_link.proofs.turn.set_sides.Goals as goal

pub returns-clause-balanced : goal.returns-clause-balanced
returns-clause-balanced g c =
    let height : c.max.result + 1 ≡ max c.args.left.height c.args.right.height + 1 = omega arith in
    (height, omega (arith, length-append c.args.left.items (c.args.node.now.value ∷ c.args.right.items)), c.requires.balanced, rw height (least_count_append _ _ _ _ _ c.requires.balanced c.height.ensures.full c.height-2.ensures.full))
