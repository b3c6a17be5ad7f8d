-- Fronts of a generated script.
use Rattle.std.specs.Prelude.{ℕ, List, map}
use Rattle.plain_model.specs.declared.commands.Command.{Command}
use Rattle.plain_model.specs.declared.report.Part.{Part}
use Rattle.plain_model.specs.Frozen.{numbers_from}
use Rattle.plain_model.specs.Generator.{generated_command}

-- the first so many commands of the part p
abbrev pub first_commands : ℕ → ℕ → ℕ → List Command
first_commands n p count = map (generated_command n p) (numbers_from 0 count)

-- the part p with the first so many of its commands
abbrev pub front_of_part : ℕ → ℕ → ℕ → Part
front_of_part n count p = record { commands = first_commands n p count }

-- the first so many parts, each with the first so many commands
abbrev pub first_parts : ℕ → ℕ → ℕ → List Part
first_parts n count parts = map (front_of_part n count) (numbers_from 0 parts)
