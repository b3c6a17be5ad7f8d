use Rattle.std.proofs.Common.{refl}
use Rattle.imm_list.specs.Answers.{list_why}
use Rattle.plain_model.specs.declared.plain.Kind.TheVariants as kinds
use Rattle.plain_model.specs.Plain.{elements}
use Rattle.collections.proofs.Lists.{new_judged}
use Rattle.collections.proofs.list.list_of_values.Goals as goal

pub returns : goal.returns
returns c =
    rw c.judged.ensures (new_judged kinds.List list_why c.args.values.now (elements c.args.values.now) refl c.from_slice.result (rw (c.as_slice.ensures.value, c.in_ok-values.ensures) at c.from_slice.ensures))
