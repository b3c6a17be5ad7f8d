use Rattle.std.proofs.Common.{◌≡◌, ◌++◌, take}
use Rattle.std.specs.Prelude.{string_bytes}
use Rattle.std.specs.List.{flat_map}
use Rattle.plain_model.specs.Text.{line, command_words}
use Rattle.script.proofs.printing.write_commands.Given as goal

abbrev pub invariant-loop-command : goal.invariant-loop-command
invariant-loop-command l = string_bytes l.text ≡ string_bytes l.fn.text ++ flat_map (λ c. line (command_words c)) (take l.command-index l.commands)
