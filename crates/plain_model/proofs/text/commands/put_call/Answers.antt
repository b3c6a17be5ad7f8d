use Rattle.plain_model.proofs.text.commands.put_call.Goals as goal

pub returns-in-AddOrUpdateMade : goal.returns-in-AddOrUpdateMade
returns-in-AddOrUpdateMade c = rw c.in-AddOrUpdateMade.is c.put_making.ensures
