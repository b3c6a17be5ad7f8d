use Rattle.std.proofs.Common.{sym, ap, ◌∙◌}
use Rattle.plain_model.specs.Locals.{query_from, ask_given}
use Rattle.locals.specs.Bound.{bound_of}
use Rattle.locals.specs.Commands.{asked}
use Rattle.locals.proofs.Answering.{query_from_values}
use Rattle.locals.proofs.locals.Locals.answered.Goals as goal

pub returns-in_ok-answer-in-Some-2 : goal.returns-in_ok-answer-in-Some-2
returns-in_ok-answer-in-Some-2 c =
    let s = c.args.self.now in
    let b = bound_of c.args.value.now in
    let given = sym c.in-Some-2.is ∙ c.in_ok-values-in-Some.ensures.values in
    let from = ap (query_from s c.args.query.now) c.in-Some.is ∙ query_from_values s c.args.query.now c.in-Some.name c.in-Some-2.values given in
    sym (c.in_ok-answer-in-Some-2.ensures s) ∙ (ap (λ q. ask_given q b s) c.in_ok-query-in-Some-2.ensures.query ∙ sym (ap (λ o. asked o b s) from))
