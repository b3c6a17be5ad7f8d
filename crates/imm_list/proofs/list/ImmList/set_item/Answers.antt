use Rattle.imm_base.specs.Lists.{list_set_item}
use Rattle.imm_list.proofs.list.ImmList.set_item.Goals as goal

pub returns : goal.returns
returns g c =
    c.edit_of.ensures (list_set_item c.args.index c.args.value c.args.self.now) (rw c.tree.ensures at c.replace_at.ensures)
