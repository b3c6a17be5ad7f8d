use Rattle.std.proofs.Common.{◌≡◌, ◌≤◌, take}
use Rattle.std.specs.Prelude.{count_by}
use Rattle.script.specs.Limits.{is_publish}
use Rattle.script.proofs.limits.publish_count.Given as goal

abbrev pub invariant-loop-command : goal.invariant-loop-command
invariant-loop-command l = record {
  so_far : l.count ≡ count_by is_publish (take l.command-index l.commands);
  few : l.count ≤ l.command-index;
}
