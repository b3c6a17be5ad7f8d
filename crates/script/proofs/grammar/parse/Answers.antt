use Rattle.std.proofs.Common.{sym, ◌∙◌}
use Rattle.script.proofs.ReadyScripts.{IsReady-read_script}
use Rattle.script.proofs.grammar.parse.Goals as goal

pub returns-in-Ok-clause-sound : goal.returns-in-Ok-clause-sound
returns-in-Ok-clause-sound c = IsReady-read_script c.args.bytes.now c.in-Ok.script (sym c.in_ok-script.ensures ∙ c.in-Ok.is)
