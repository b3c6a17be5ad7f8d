use Rattle.std.proofs.Common.{◌≡◌, IfOk, subst}
use Rattle.plain_model.specs.Places.{start_of}
use Rattle.enumerators.specs.Orders.{pairs_by_hash}
use Rattle.enumerators.proofs.built.DictBuilderValValWalked.rest.Goals as goal

pub returns-clause-start : goal.returns-clause-start
returns-clause-start g c = subst (λ m. IfOk c.rest_of.result (λ rest. rest ≡ start_of (pairs_by_hash (g.H.HashEq.hash m.eq) m.pairs))) c.in_ok-to_immutable.ensures.published c.rest_of.ensures
