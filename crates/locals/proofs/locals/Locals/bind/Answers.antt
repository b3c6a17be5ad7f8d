use Rattle.locals.proofs.NamesOf.{locals_of-with_name}
use Rattle.locals.proofs.locals.Locals.bind.Goals as goal

pub returns-clause-ok : goal.returns-clause-ok
returns-clause-ok c =
    let at = locals_of-with_name c.args.name c.args.value c.self.inside.names c.bind.new.self c.in_ok-bind.ensures.ok in
    cc (at, c.self.view_is)
