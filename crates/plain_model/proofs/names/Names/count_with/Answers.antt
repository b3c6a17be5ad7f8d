use Rattle.std.proofs.Common.{rules}
use Rattle.plain_model.proofs.Bindings.{count_bound, count_unbound}
use Rattle.plain_model.proofs.names.Names.count_with.Goals as goal

pub returns-then-contains : goal.returns-then-contains
returns-then-contains g c = λ value. search (rules, count_bound)

pub returns-else-contains : goal.returns-else-contains
returns-else-contains g c = λ value. search (rules, count_unbound)
