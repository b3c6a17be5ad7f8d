use Rattle.plain_model.proofs.text.ops.put_query.Goals as goal

pub returns-in-LastIndexOf : goal.returns-in-LastIndexOf
returns-in-LastIndexOf c = rw c.in-LastIndexOf.is c.put_last_index_of.ensures
