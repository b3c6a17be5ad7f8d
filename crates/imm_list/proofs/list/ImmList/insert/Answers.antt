use Rattle.imm_base.specs.Lists.{list_insert}
use Rattle.imm_list.proofs.list.ImmList.insert.Goals as goal

pub returns : goal.returns
returns g c =
    c.edit_of.ensures (list_insert c.args.index c.args.value c.args.self.now) (rw c.tree.ensures at c.insert_at.ensures)
