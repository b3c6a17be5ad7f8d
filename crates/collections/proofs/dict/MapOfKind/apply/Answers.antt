use Rattle.imm_base.specs.declared.val.Val.{Val}
use Rattle.imm_base.specs.declared.comparers.ValEq.{ValEq}
use Rattle.imm_base.specs.Order.{val_cmp, eq_same}
use Rattle.imm_dictionary.specs.Mapped.{Mapped}
use Rattle.plain_model.specs.declared.plain.Kind.TheVariants as kinds
use Rattle.plain_model.specs.Plain.{map_op}
use Rattle.collections.proofs.Maps.{map_judged}
use Rattle.collections.proofs.dict.MapOfKind.apply.Goals as goal

pub returns : goal.returns
returns c =
    let map = c.args.self.now in
    rw c.judged.ensures (map_judged {S = Mapped Val Val ValEq} (λ m. m.pairs) (λ m. m.eq) kinds.Dict map.eq map.pairs c.change.result (map_op val_cmp (eq_same map.eq) c.args.op.now map.pairs) c.change.ensures)
