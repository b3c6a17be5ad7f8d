use Rattle.std.proofs.Common.{◌∙◌, sym}
use Rattle.avl_node.proofs.SideLemmas.{found_by, some_map}
use Rattle.avl_node.proofs.tree.Tree.find_in.Goals as goal

pub returns-clause-found : goal.returns-clause-found
returns-clause-found g c up =
    c.is_some.ensures ∙ sym (some_map _ c.first_equal-place.result.1) ∙ found_by (g.P.Probe.side c.args.probe.now) c.args.self.now.items c.first_equal-place.result.0 _ (c.first_equal-place.ensures.element up)
