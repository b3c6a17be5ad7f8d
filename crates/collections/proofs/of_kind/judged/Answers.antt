use Rattle.std.proofs.Common.{ap, sym, ◌∙◌}
use Rattle.std.specs.Option.{option_map}
use Rattle.imm_base.specs.Answers.{why_of}
use Rattle.collections.specs.Changes.{refused_by}
use Rattle.collections.proofs.of_kind.judged.Goals as goal

pub returns-in-Some : goal.returns-in-Some
returns-in-Some g c =
    rw (c.in-Err.is, c.refusal.ensures) (ap (λ told. refused_by told) (sym (ap (option_map why_of) c.in-Some.is) ∙ c.refused.ensures))

pub returns-in-None : goal.returns-in-None
returns-in-None g c =
    rw c.in-Err.is (ap (λ told. refused_by told) (sym (ap (option_map why_of) c.in-None.is) ∙ c.refused.ensures))
