use Rattle.std.proofs.Common.{◌∙◌, ap}
use Rattle.std.specs.List.{list_any}
use Rattle.hash_bucket.proofs.Elements.{any-elements}
use Rattle.hash_bucket.proofs.tree.HashTree.any.Goals as goal

pub returns : goal.returns
returns g c =
    let passes = g.Q.Test.passes c.args.test.now in
    c.any.ensures ∙ any-elements passes c.tree.result.now.items ∙ ap (λ xs. list_any passes xs) c.tree.ensures.items
