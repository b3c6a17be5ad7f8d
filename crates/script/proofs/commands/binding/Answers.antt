use Rattle.std.proofs.Common.{rules}
use Rattle.script.specs.Commands.{binding}
use Rattle.script.proofs.commands.binding.Goals as goal

pub returns-in_default : goal.returns-in_default
unfolding binding
returns-in_default c = search rules

pub returns-in-GetOrAdd : goal.returns-in-GetOrAdd
unfolding binding
returns-in-GetOrAdd c = search rules

pub returns-in-AddOrUpdate : goal.returns-in-AddOrUpdate
unfolding binding
returns-in-AddOrUpdate c = search rules

pub returns-in-TryAdd : goal.returns-in-TryAdd
unfolding binding
returns-in-TryAdd c = search rules

pub returns-in-TryUpdate : goal.returns-in-TryUpdate
unfolding binding
returns-in-TryUpdate c = search rules

pub returns-in-TryRemove : goal.returns-in-TryRemove
unfolding binding
returns-in-TryRemove c = search rules

pub returns-in-Push : goal.returns-in-Push
unfolding binding
returns-in-Push c = search rules

pub returns-in-TryPop : goal.returns-in-TryPop
unfolding binding
returns-in-TryPop c = search rules

pub returns-in-Enqueue : goal.returns-in-Enqueue
unfolding binding
returns-in-Enqueue c = search rules

pub returns-in-TryDequeue : goal.returns-in-TryDequeue
unfolding binding
returns-in-TryDequeue c = search rules

pub returns-in-AddOrUpdateMade : goal.returns-in-AddOrUpdateMade
unfolding binding
returns-in-AddOrUpdateMade c = search rules
