use Rattle.std.proofs.Common.{◌∙◌, ℕ, arith, ap, sym, length}
use Rattle.std.specs.Prelude.{fold}
use Rattle.frozen_sets.specs.Codes.{less_of}
use Rattle.frozen_sets.proofs.Slices.{least_is, least_at_most}
use Rattle.frozen_sets.proofs.pieces.least_length.Goals as goal

pub returns-in-Some-clause-least : goal.returns-in-Some-clause-least
returns-in-Some-clause-least c =
    c.least_from.ensures ∙ ap (λ (n : ℕ). fold less_of n c.args.keys.now) (ap length c.text.ensures.text)
    ∙ least_is c.in-Some.first.now c.args.keys.now (sym c.in-Some.ensures.value)

pub returns-in-Some-clause-short : goal.returns-in-Some-clause-short
returns-in-Some-clause-short c = omega (arith, c.least_from.ensures, least_at_most (length c.text.result.now) c.args.keys.now, c.text.ensures.short)
