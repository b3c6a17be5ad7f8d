use Rattle.std.proofs.Common.{List, ap, ◌∙◌, w64}
use Rattle.std.specs.Prelude.{ℤ, map}
use Rattle.std.proofs.lemmas.Int.{to_z-of_z}
use Rattle.imm_base.specs.declared.val.Val.{Val}
use Rattle.imm_base.specs.declared.val.Val.TheVariants.{Int}
use Rattle.plain_model.specs.Plain.{integers_from}
use Rattle.collections.proofs.Sequences.{pairs_of_integers}
use Rattle.collections.proofs.arguments.pairs_from.Goals as goal

pub returns : goal.returns
returns c =
    c.in_ok-pairs.ensures
    ∙ ap (λ (vs : List Val). map {B = Val × Val} (λ v. (v, v)) vs)
    (c.in_ok-integers.ensures ∙ ap (λ (z : ℤ). map Int (integers_from z c.args.count)) (to_z-of_z w64 c.args.first c.ranges.first))
    ∙ pairs_of_integers c.args.first c.args.count
