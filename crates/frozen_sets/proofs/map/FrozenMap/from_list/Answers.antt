use Rattle.std.proofs.Common.{◌∙◌, sym, subst}
use Rattle.std.specs.Ordering.{on}
use Rattle.std.proofs.lemmas.Result.{IfOk-weaker}
use Rattle.imm_base.specs.declared.val.Val.{Val}
use Rattle.imm_base.specs.declared.comparers.ValOrder.{ValOrder}
use Rattle.imm_base.specs.declared.comparers.ValOrder.TheVariants.{Ordinal}
use Rattle.imm_base.specs.Order.{order_cmp}
use Rattle.frozen_sets.specs.Kept.{TiesToo, firsts}
use Rattle.frozen_sets.proofs.Contents.{key_ties_too, pairs_are}
use Rattle.frozen_sets.proofs.map.FrozenMap.from_list.Goals as goal

pub kept-requires : goal.kept-requires
kept-requires g c =
    subst (λ (o : ValOrder). TiesToo {T = Val × g.row.V.Denot} (on (λ e. e.0) (order_cmp Ordinal)) (on (λ e. e.0) (order_cmp o))) (sym c.order_of.ensures) (key_ties_too c.args.eq)

pub returns-clause-pairs : goal.returns-clause-pairs
returns-clause-pairs g c =
    IfOk-weaker c.of_kept.result _ _ (λ m e. e ∙ c.in_ok-pairs.ensures.items ∙ (λ i. firsts (on (λ e. e.0) (order_cmp Ordinal)) (on (λ e. e.0) (order_cmp (c.order_of.ensures i))) (c.in_ok-latter_first.ensures.pairs i)) ∙ pairs_are c.args.eq c.args.pairs.now) c.of_kept.ensures.pairs
