use Rattle.std.proofs.Common.{◌∙◌}
use Rattle.std.specs.Prelude.{find}
use Rattle.imm_base.specs.Order.{eq_same}
use Rattle.frozen_sets.proofs.Found.{key_found}
use Rattle.frozen_sets.proofs.map.FrozenMap.get_key.Goals as goal

pub returns : goal.returns
returns g c =
    c.actual.ensures ∙ (λ i. find (eq_same (c.key_set.ensures.eq i) c.args.key.now) (c.key_set.ensures.keys i))
    ∙ key_found (eq_same c.args.self.now.eq c.args.key.now) c.args.self.now.pairs
