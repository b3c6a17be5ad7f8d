use Rattle.imm_base.specs.Lists.{list_remove_at}
use Rattle.imm_list.proofs.list.ImmList.remove_at.Goals as goal

pub returns : goal.returns
returns g c =
    c.edit_of.ensures (list_remove_at c.args.index c.args.self.now) (rw c.tree.ensures at c.remove_at.ensures)
