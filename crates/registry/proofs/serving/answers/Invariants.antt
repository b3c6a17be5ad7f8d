use Rattle.std.proofs.Common.{◌≡◌, length}
use Rattle.registry.specs.Registry.{AreAnswers}
use Rattle.registry.proofs.serving.answers.Given as goal

abbrev pub invariant-loop-index : goal.invariant-loop-index
invariant-loop-index l = record {
  count : length l.answers.items ≡ l.index;
  each : AreAnswers l.commands l.responses l.answers.items;
}
