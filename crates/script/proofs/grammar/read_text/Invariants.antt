use Rattle.std.proofs.Common.{◌≡◌, ◌≤◌, ◌+◌, length}
use Rattle.plain_model.specs.declared.limits.TheConstants.{INPUT_LIMIT}
use Rattle.script.specs.Lines.{script_lines}
use Rattle.script.specs.Grammar.{read_lines, read_script}
use Rattle.script.proofs.grammar.read_text.Given as goal

abbrev pub invariant-loop-parser : goal.invariant-loop-parser
invariant-loop-parser l = record {
  so_far : read_lines l.parser l.number (script_lines l.rest) ≡ read_script l.bytes;
  room : l.number + length l.rest ≤ INPUT_LIMIT + 1;
}

abbrev pub decreases-loop-parser : goal.decreases-loop-parser
decreases-loop-parser l = length l.rest
