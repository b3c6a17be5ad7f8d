use Rattle.std.proofs.Common.{◌∙◌, map}
use Rattle.std.specs.List.{zip}
use Rattle.frozen_sets.proofs.Found.{zip_split}
use Rattle.frozen_sets.proofs.map.FrozenMap.of_kept.Goals as goal

pub returns-clause-pairs : goal.returns-clause-pairs
returns-clause-pairs g c =
    (λ i. zip (c.in_ok-keys.ensures.items i) (c.in_ok-values.ensures.values i))
    ∙ (λ i. zip (c.in_ok-keys_of.ensures.keys i) (map (λ e. e.1) c.args.pairs.items))
    ∙ (λ i. zip (map (λ e. e.0) (c.as_slice.ensures.value i)) (map (λ e. e.1) c.args.pairs.items)) ∙ zip_split c.args.pairs.items
