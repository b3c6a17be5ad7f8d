use Rattle.std.proofs.Common.{refl}
use Rattle.imm_array.specs.Answers.{array_why}
use Rattle.plain_model.specs.declared.plain.Kind.TheVariants as kinds
use Rattle.plain_model.specs.Plain.{elements}
use Rattle.avl_node.specs.Rows.{list_made}
use Rattle.collections.proofs.Arrays.{new_answered}
use Rattle.collections.proofs.Lists.{new_judged}
use Rattle.collections.proofs.array.array_of_values.Goals as goal

pub returns : goal.returns
returns c =
    let xs = elements c.args.values.now in
    rw c.judged.ensures (new_judged kinds.Array array_why c.args.values.now xs refl c.from_slice.result (new_answered c.from_slice.result (list_made xs) (rw (c.as_slice.ensures.value, c.in_ok-values.ensures) at c.from_slice.ensures)))
