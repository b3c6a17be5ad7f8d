-- Scripts that workers can run.
use Rattle.std.specs.Prelude.{◌≤◌, length}
use Rattle.std.specs.List.{AllByRecursion}
use Rattle.plain_model.specs.declared.limits.TheConstants.{COMMANDS_LIMIT, PARTS_LIMIT}
use Rattle.plain_model.specs.declared.report.Script.{Script}
use Rattle.plain_model.specs.Locals.{no_locals}
use Rattle.runs.specs.Needs.{CanBegin, CanDoAll}
use Rattle.runs.specs.Places.{AreApart}

-- no two cells of one name, each can begin, and all commands can be done
pub record CanRun (script : Script) : Type 0 where
  pub apart : AreApart script.cells
  pub begin : AllByRecursion CanBegin script.cells
  pub count : length script.parts ≤ PARTS_LIMIT
  pub few : AllByRecursion (λ p. length p.commands ≤ COMMANDS_LIMIT) script.parts
  pub can : AllByRecursion (λ p. CanDoAll script.cells p.commands no_locals) script.parts
