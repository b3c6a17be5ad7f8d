use Rattle.std.proofs.Common.{sym, ◌∙◌}
use denote.Enum.Bare.{sameb}
use Rattle.imm_base.specs.contracts.comparers.ValEq.{the_type}
use Rattle.imm_base.specs.declared.val.Val.{Val}
use Rattle.imm_base.specs.declared.comparers.ValEq.{ValEq}
use Rattle.imm_base.specs.Order.{val_cmp, val_eq, eq_same}
use Rattle.imm_base.specs.Rekey.{map_rekey}
use Rattle.imm_dictionary.specs.Mapped.{Mapped}
use Rattle.plain_model.specs.declared.plain.Kind.TheVariants as kinds
use Rattle.collections.proofs.Maps.{map_judged}
use Rattle.collections.proofs.Dicts.{map_rekeyed}
use Rattle.collections.proofs.dict.MapHasComparer.rekeyed.Goals as goal

pub returns : goal.returns
returns c = λ kind is.
    let map = c.args.self.now in
    let eq = c.in-Some.eq in
    rw (c.judged.ensures, sym (map_rekeyed map.eq eq c.args.comparer kind map.pairs (sym c.equality.ensures ∙ c.in-Some.is) is))
    (map_judged {S = Mapped Val Val ValEq} (λ m. m.pairs) (λ m. m.eq) kinds.Dict eq map.pairs c.with_comparer.result (map_rekey val_cmp val_cmp (eq_same eq) val_eq (sameb the_type eq map.eq) map.pairs) c.with_comparer.ensures)
