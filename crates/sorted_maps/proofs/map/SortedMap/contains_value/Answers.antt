use Rattle.std.proofs.Common.{ap, ◌∙◌}
use Rattle.std.specs.List.{list_any}
use Rattle.sorted_maps.proofs.Placing.{any-entries}
use Rattle.sorted_maps.proofs.map.SortedMap.contains_value.Goals as goal

pub returns : goal.returns
returns g c =
    c.any.ensures ∙ any-entries (λ v. g.V.PartialEq.eq v c.args.value.now) c.tree.result.now.items ∙ ap (λ m. list_any (λ e. g.V.PartialEq.eq e.1 c.args.value.now) m) c.tree.ensures.pairs
