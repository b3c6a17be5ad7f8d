use Rattle.std.proofs.Common.{sym, ◌∙◌}
use Rattle.runs.proofs.OneCell.{idle_now, ran_now}
use Rattle.runs.proofs.cell_run.CellRun.probe.Goals as goal

pub returns-in-Some : goal.returns-in-Some
returns-in-Some c = let far = c.requires.so_far in idle_now far.0 c.args.self.now far.1 c.args.key.now _ (sym c.in_ok-value_in.ensures ∙ c.in-Some.is)

pub returns-in-None : goal.returns-in-None
returns-in-None c = let far = c.requires.so_far in ran_now far.0 c.args.self.now far.1 c.args.key.now (sym c.in_ok-value_in.ensures ∙ c.in-None.is)
