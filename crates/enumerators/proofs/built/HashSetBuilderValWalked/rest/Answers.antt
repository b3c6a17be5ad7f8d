use Rattle.std.proofs.Common.{◌≡◌, IfOk, subst}
use Rattle.plain_model.specs.Places.{start_of}
use Rattle.enumerators.specs.Orders.{values_by_hash}
use Rattle.enumerators.proofs.built.HashSetBuilderValWalked.rest.Goals as goal

pub returns-clause-start : goal.returns-clause-start
returns-clause-start g c = subst (λ s. IfOk c.rest_of.result (λ rest. rest ≡ start_of (values_by_hash (g.H.HashEq.hash s.eq) s.items))) c.in_ok-to_immutable.ensures.published c.rest_of.ensures
