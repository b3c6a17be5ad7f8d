use Rattle.std.proofs.Common.{ap}
use Rattle.std.specs.Prelude.{option_map}
use Rattle.locals.specs.Bound.{bound_of}
use Rattle.locals.proofs.NamesOf.{bound_of_get}
use Rattle.locals.proofs.locals.Locals.bound.Goals as goal

pub returns : goal.returns
returns c =
    let at = bound_of_get c.self.inside.names c.args.name.now in
    let same = ap (option_map bound_of) c.get.ensures in
    cc (at, c.self.view_is, same)
