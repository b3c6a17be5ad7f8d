use Rattle.plain_model.proofs.text.report.put_title.Goals as goal

pub returns : goal.returns
returns c = c.write.ensures.bytes
