use Rattle.plain_model.proofs.text.ops.put_op.Goals as goal

pub returns-in-RemoveRange : goal.returns-in-RemoveRange
returns-in-RemoveRange c = rw c.in-RemoveRange.is c.put_remove_range.ensures
