use Rattle.locals.proofs.NamesOf.{collection_at_bound, collection_at_unbound}
use Rattle.locals.proofs.locals.Locals.collection.Goals as goal

pub returns-in-Some : goal.returns-in-Some
returns-in-Some c =
    let at = collection_at_bound c.self.inside.names c.args.name.now c.in-Some.bound.now c.in-Some.ensures in
    cc (at, c.self.view_is, c.as_collection.ensures)

pub returns-in-None : goal.returns-in-None
returns-in-None c =
    let at = collection_at_unbound c.self.inside.names c.args.name.now c.in-None.ensures in
    cc (at, c.self.view_is)
