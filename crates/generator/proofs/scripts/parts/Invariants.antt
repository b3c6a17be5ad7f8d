use Rattle.std.specs.Prelude.{◌≡◌}
use Rattle.generator.specs.Beginnings.{first_parts}
use Rattle.generator.proofs.scripts.parts.Given as goal

abbrev pub invariant-loop-part : goal.invariant-loop-part
invariant-loop-part l = l.parts ≡ first_parts l.number l.count l.part
