use Rattle.std.specs.Prelude.{◌≡◌}
use Rattle.generator.specs.Beginnings.{first_commands}
use Rattle.generator.proofs.scripts.commands.Given as goal

abbrev pub invariant-loop-index : goal.invariant-loop-index
invariant-loop-index l = l.commands ≡ first_commands l.number l.part l.index
