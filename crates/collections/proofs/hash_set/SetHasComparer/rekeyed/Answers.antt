use Rattle.std.proofs.Common.{sym, ◌∙◌}
use denote.Enum.Bare.{sameb}
use Rattle.imm_base.specs.contracts.comparers.ValEq.{the_type}
use Rattle.imm_base.specs.declared.val.Val.{Val}
use Rattle.imm_base.specs.declared.comparers.ValEq.{ValEq}
use Rattle.imm_base.specs.Order.{val_cmp, eq_same}
use Rattle.imm_base.specs.Rekey.{set_rekey}
use Rattle.hash_bucket.specs.Hashed.{Hashed}
use Rattle.plain_model.specs.declared.plain.Kind.TheVariants as kinds
use Rattle.collections.proofs.Sets.{set_judged}
use Rattle.collections.proofs.HashSets.{set_rekeyed}
use Rattle.collections.proofs.hash_set.SetHasComparer.rekeyed.Goals as goal

pub returns : goal.returns
returns c = λ kind is.
    let set = c.args.self.now in
    let eq = c.in-Some.eq in
    rw (c.judged.ensures, sym (set_rekeyed set.eq eq c.args.comparer kind set.items (sym c.equality.ensures ∙ c.in-Some.is) is))
    (set_judged {S = Hashed Val ValEq} (λ s. s.items) (λ s. s.eq) kinds.HSet eq set.items c.with_comparer.result (set_rekey val_cmp val_cmp (eq_same eq) (sameb the_type eq set.eq) set.items) c.with_comparer.ensures)
