use Rattle.std.proofs.Common.{◌≡◌, ◌≤◌, take}
use Rattle.plain_model.specs.Generator.{installs}
use Rattle.generator.proofs.summaries.installs.Given as goal

abbrev pub invariant-loop-line : goal.invariant-loop-line
invariant-loop-line l = record {
  so_far : l.count ≡ installs (take l.line-index l.lines);
  few : l.count ≤ l.line-index;
}
