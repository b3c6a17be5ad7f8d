use Rattle.script_line.proofs.NameLemmas.{text_of-made}
use Rattle.script_line.proofs.values.text_of.Goals as goal

pub returns : goal.returns
returns c = text_of-made c.args.text.now c.from_bytes.result c.from_bytes.ensures.one c.from_bytes.ensures.same
