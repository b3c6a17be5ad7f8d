use Rattle.std.proofs.Common.{◌∙◌, sym}
use Rattle.std.specs.Cmp.{on_total}
use Rattle.std.specs.Ordering.{on}
use Rattle.std.proofs.lemmas.Result.{IfOk-weaker}
use Rattle.imm_dictionary.proofs.Entries.{sorted_rises}
use Rattle.imm_dictionary.proofs.dict.Dict.in_ordinal_order.Goals as goal

pub returns : goal.returns
returns g c =
    IfOk-weaker c.to_vec.result _ _ (λ v e. e ∙ sym (sorted_rises (on (λ e. e.0) g.K.Ord.cmp) (on_total (λ e. e.0) g.met.K.Ord.total) c.args.self.now.pairs c.count-count.ensures.map.rises)) c.to_vec.ensures
