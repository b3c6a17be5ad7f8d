use Rattle.std.proofs.Common.{◌≡◌, sym, ap, ◌∙◌, Some}
use Rattle.plain_model.specs.Comparers.{with_comparer}
use Rattle.locals.specs.Commands.{rekey_result}
use Rattle.locals.proofs.Answering.{rekey_given_of}
use Rattle.locals.proofs.locals.Locals.rekey_result.Goals as goal

pub returns-in_ok-rekey_result-in-Some-with_comparer : goal.returns-in_ok-rekey_result-in-Some-with_comparer
returns-in_ok-rekey_result-in-Some-with_comparer c =
    let kind = c.in-Some-with_comparer.kind in
    let p = c.in-Some.old.now in
    let has : with_comparer p.kind c.args.comparer ≡ Some kind = ap (λ k. with_comparer k c.args.comparer) (sym c.kind.ensures) ∙ sym c.in-Some-with_comparer.ensures in
    rekey_given_of c.args.name c.args.old.now p c.args.comparer kind c.args.self.now c.in_ok-rekey_result-in-Some-with_comparer.field-0 (sym c.in-Some.ensures) has
    (c.in_ok-rekey_result-in-Some-with_comparer.ensures ∙ ap (rekey_result c.args.name p kind) (c.in_ok-changed-in-Some-with_comparer.ensures kind has))
