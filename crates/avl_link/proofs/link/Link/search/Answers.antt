use Rattle.avl_node.proofs.Searching.{found_at, missing_at}
use Rattle.avl_link.proofs.link.Link.search.Goals as goal

pub returns-then-found : goal.returns-then-found
returns-then-found g c =
    found_at _ _ _ _ c.requires (c.find_in-place.ensures.place c.requires) (c.find_in-place.ensures.found c.requires) c.if-found.true

pub returns-else-found : goal.returns-else-found
returns-else-found g c =
    missing_at _ _ _ _ c.requires (c.find_in-place.ensures.place c.requires) (c.find_in-place.ensures.found c.requires) c.if-found.false
