use Rattle.std.proofs.Common.{◌∙◌, sym, subst}
use Rattle.std.proofs.lemmas.Result.{IfOk-weaker}
use Rattle.imm_base.specs.declared.comparers.ValOrder.{ValOrder}
use Rattle.imm_base.specs.declared.comparers.ValOrder.TheVariants.{Ordinal}
use Rattle.imm_base.specs.Order.{order_cmp}
use Rattle.frozen_sets.specs.Kept.{TiesToo, firsts}
use Rattle.frozen_sets.proofs.Contents.{elements_are, ties_too}
use Rattle.frozen_sets.proofs.set.FrozenSet.from_list.Goals as goal

pub kept-requires : goal.kept-requires
kept-requires c = subst (λ (o : ValOrder). TiesToo (order_cmp Ordinal) (order_cmp o)) (sym c.order_of.ensures) (ties_too c.args.eq)

pub returns-clause-items : goal.returns-clause-items
returns-clause-items c =
    IfOk-weaker c.of_kept.result _ _ (λ s e. e ∙ c.in_ok-elements.ensures.items ∙ (λ i. firsts (order_cmp Ordinal) (order_cmp (c.order_of.ensures i)) (c.in_ok-values.ensures.items i)) ∙ elements_are c.args.eq c.args.values.now) c.of_kept.ensures.items
