use Rattle.std.proofs.Common.{ap}
use Rattle.std.specs.Option.{option_copied}
use Rattle.avl_node.proofs.Searching.{element_at, no_element_at}
use Rattle.avl_node.proofs.tree.Tree.locate.Goals as goal

pub returns-in-Some : goal.returns-in-Some
returns-in-Some g c =
    element_at _ _ _ _ _ c.requires (c.first_equal-place.ensures.place c.requires) (c.first_equal-place.ensures.element c.requires) (ap option_copied c.in-Some.is)

pub returns-in-None : goal.returns-in-None
returns-in-None g c =
    no_element_at _ _ _ _ c.requires (c.first_equal-place.ensures.place c.requires) (c.first_equal-place.ensures.element c.requires) (ap option_copied c.in-None.is)
