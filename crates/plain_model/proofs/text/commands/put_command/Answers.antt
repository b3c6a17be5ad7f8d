use Rattle.plain_model.proofs.text.commands.put_command.Goals as goal

pub returns-in-CompareExchange : goal.returns-in-CompareExchange
returns-in-CompareExchange c = rw c.in-CompareExchange.is c.put_names_at.ensures

pub returns-in-Initialize : goal.returns-in-Initialize
returns-in-Initialize c = rw c.in-Initialize.is c.put_name_at.ensures

pub returns-in-AddOrUpdateMade : goal.returns-in-AddOrUpdateMade
returns-in-AddOrUpdateMade c = rw c.in-AddOrUpdateMade.is c.put_making_at.ensures
