use Rattle.enumerators.proofs.PlainPools.{owner_is, changed_at, same_pool, turned_pool, unchanged_at}
use Rattle.plain_model.specs.Places.{reset}
use Rattle.enumerators.proofs.walk.Walk.reset.Goals as goal

pub returns-in-Ok-check : goal.returns-in-Ok-check
returns-in-Ok-check c =
    let owner = owner_is _ _ c.in-Ok.ensures.disposed.1 in
    let rest = c.in-Ok.rest.now in (
      rest,
      (
        unchanged_at c.args.pool.now c.args.self rest owner c.in-Ok.ensures.ok c.args.now c.in-Ok-check.ensures,
        turned_pool c.args.pool.now c.args.self.owner.place c.args.self.owner.number c.reset.new.self (reset rest) owner c.reset.ensures,
      ),
    )

pub returns-in-Err-check : goal.returns-in-Err-check
returns-in-Err-check c =
    let owner = owner_is _ _ c.in-Ok.ensures.disposed.1 in
    let content = c.in-Ok.ensures.ok in (
      changed_at c.args.pool.now c.args.self c.in-Ok.rest.now owner content c.args.now c.in-Err-check.fault c.in-Err-check.ensures.0 c.in-Err-check.ensures.1,
      same_pool c.args.pool.now c.args.self.owner.place c.in-Ok.rest.now content,
    )
