use Rattle.std.proofs.Common.{◌≡◌, ◌+◌, drop, false}
use Rattle.std.specs.Option.{option_map}
use Rattle.script_line.specs.Values.{equals_sign}
use Rattle.script_line.proofs.values.equals_sign.Given as goal

abbrev pub invariant-loop-i : goal.invariant-loop-i
invariant-loop-i l = option_map (λ k. l.i + k) (equals_sign l.is_quoted (drop l.i l.word)) ≡ equals_sign false l.word
