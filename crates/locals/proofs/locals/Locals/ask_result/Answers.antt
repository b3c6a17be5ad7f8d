use Rattle.locals.proofs.Answering.{has_answer_at}
use Rattle.locals.specs.Bound.{bound_of}
use Rattle.locals.proofs.locals.Locals.ask_result.Goals as goal

pub answered-requires-clause-answered : goal.answered-requires-clause-answered
answered-requires-clause-answered c = has_answer_at c.args.self.now c.args.name.now c.args.query.now (bound_of c.in-Some.value.now) c.in-Some.ensures c.requires.answered
