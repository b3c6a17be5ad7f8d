use Rattle.imm_list.specs.Answers.{list_why}
use Rattle.plain_model.specs.declared.plain.Kind.TheVariants as kinds
use Rattle.plain_model.specs.Plain.{list_op}
use Rattle.collections.proofs.Lists.{edit_judged}
use Rattle.collections.proofs.list.ListOfKind.apply.Goals as goal

pub returns : goal.returns
returns c =
    rw c.judged.ensures (edit_judged kinds.List list_why c.args.self.now c.change.result (list_op c.args.op.now c.args.self.now) c.change.ensures)
