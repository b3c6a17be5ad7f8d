use Rattle.std.proofs.Common.{◌≡◌, ◌∙◌, ap, refl, Some, None}
use Rattle.std.specs.Prelude.{is_some}
use Rattle.std.specs.Option.{option_copied}
use Rattle.imm_base.specs.Order.{eq_same}
use Rattle.imm_base.proofs.KeptMaps.{is_some-find}
use Rattle.frozen_sets.proofs.set.FrozenSet.contains.Goals as goal

pub returns : goal.returns
returns c =
    c.is_some.ensures ∙ (elim c.actual.result as (λ o. is_some o ≡ is_some (option_copied o)) [ None ↦ refl | Some x ↦ refl ])
    ∙ ap is_some c.actual.ensures ∙ is_some-find (eq_same c.args.self.now.eq c.args.value.now) c.args.self.now.items
