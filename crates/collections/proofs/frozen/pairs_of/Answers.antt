use Rattle.std.proofs.Common.{ap, ◌∙◌}
use Rattle.std.specs.Prelude.{map}
use Rattle.std.specs.List.{zip}
use Rattle.collections.proofs.Projections.{zipped_again}
use Rattle.collections.proofs.frozen.pairs_of.Goals as goal

pub returns : goal.returns
returns c =
    let ps = c.args.map.now.pairs in
    let keys = c.as_slice.ensures.value ∙ c.in_ok-keys.ensures in
    let values = c.as_slice-2.ensures.value ∙ c.in_ok-values.ensures in
    c.in_ok-pairs.ensures ∙ (ap (λ ks. zip ks c.as_slice-2.result.now) keys ∙ (ap (zip (map (λ e. e.0) ps)) values ∙ zipped_again ps))
