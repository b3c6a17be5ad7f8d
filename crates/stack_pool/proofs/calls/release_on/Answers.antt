use Rattle.std.proofs.Common.{ap, sym, ◌∙◌}
use Rattle.stack_pool.specs.Views.{number_of}
use Rattle.stack_pool.proofs.Chains.{fetched_then, same_counts}
use Rattle.stack_pool.proofs.calls.release_on.Goals as goal

pub returns-clause-view : goal.returns-clause-view
returns-clause-view g c = fetched_then _ _ _ c.args.owner.place c.args.owner.number _ (ap number_of c.requires.lent.3) c.fetch.ensures.view c.put_home.ensures.view

pub returns-clause-counts : goal.returns-clause-counts
returns-clause-counts g c = let lent = c.requires.lent in
    same_counts _ _ c.args.owner.place _ _ (λ z. lent.0 (sym (ap number_of lent.3) ∙ z)) lent.0 (returns-clause-view g c)
