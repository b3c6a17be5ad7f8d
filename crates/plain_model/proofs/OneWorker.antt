-- One worker does all parts, in their order.
use Rattle.std.proofs.Common.{◌≡◌, ℕ, ◌+◌, cond, List, [], ◌∷◌, refl, ap, ◌∙◌, eq-eqb}
use Rattle.std.specs.Prelude.{map, ◌%◌, ◌==◌, if◌then◌else◌}
use Rattle.std.proofs.Math.Nat.{mod-one}
use Rattle.plain_model.specs.declared.report.Part.{Part}
use Rattle.plain_model.specs.Lawful.{parts_from, parts_of}

parts_from_one : (i : ℕ) (ps : List Part) → parts_from 1 1 i ps ≡ map (λ p. p.commands) ps
parts_from_one i [] = refl
parts_from_one i (p ∷ ps) =
    ap (λ b. if b then p.commands ∷ parts_from 1 1 (i + 1) ps else parts_from 1 1 (i + 1) ps) (eq-eqb (i % 1) (1 % 1) (mod-one i))
    ∙ ap (λ cs. p.commands ∷ cs) (parts_from_one (i + 1) ps)

pub parts_of_one : (ps : List Part) → parts_of 1 1 ps ≡ map (λ p. p.commands) ps
parts_of_one ps = parts_from_one 1 ps
