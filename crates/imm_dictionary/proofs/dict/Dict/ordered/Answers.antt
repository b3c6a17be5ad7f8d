use Rattle.std.proofs.Common.{◌∙◌, ap, map}
use Rattle.std.proofs.lemmas.Result.{IfOk-weaker}
use Rattle.imm_base.specs.Kept.{pair_cmp}
use Rattle.imm_dictionary.specs.Mapped.{entry}
use Rattle.imm_dictionary.proofs.Entries.{sorted-map}
use Rattle.imm_dictionary.proofs.dict.Dict.ordered.Goals as goal

pub returns : goal.returns
returns g c =
    IfOk-weaker c.in_own_order.result _ _ (λ v e. ap (map entry) e ∙ sorted-map entry (pair_cmp g.K.Ord.cmp g.V.Ord.cmp) c.elements.result.now.items ∙ c.elements.ensures.pairs) c.in_own_order.ensures
