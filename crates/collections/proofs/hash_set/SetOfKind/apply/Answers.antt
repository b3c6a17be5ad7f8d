use Rattle.imm_base.specs.declared.val.Val.{Val}
use Rattle.imm_base.specs.declared.comparers.ValEq.{ValEq}
use Rattle.imm_base.specs.Order.{val_cmp, eq_same}
use Rattle.hash_bucket.specs.Hashed.{Hashed}
use Rattle.plain_model.specs.declared.plain.Kind.TheVariants as kinds
use Rattle.plain_model.specs.Plain.{set_op}
use Rattle.collections.proofs.Sets.{set_judged}
use Rattle.collections.proofs.hash_set.SetOfKind.apply.Goals as goal

pub returns : goal.returns
returns c =
    let set = c.args.self.now in
    rw c.judged.ensures (set_judged {S = Hashed Val ValEq} (λ s. s.items) (λ s. s.eq) kinds.HSet set.eq set.items c.change.result (set_op val_cmp (eq_same set.eq) c.args.op.now set.items) c.change.ensures)
