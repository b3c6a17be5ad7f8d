use Rattle.std.proofs.Common.{arith, ◌≡◌, ℕ, ◌+◌, List, [], ◌∷◌, map, sym, ap, ◌∙◌, subst}
use mathlib.Core.List.{map-append}
use Rattle.version_slots.specs.declared.view.View.{View}
use Rattle.version_slots.specs.declared.tokens.Pass.{Pass}
use Rattle.version_slots.specs.Cells.{AreAll}
use Rattle.version_slots.proofs.Callers.{all_more}
use Rattle.version_slots_tests.proofs.tests.give_back.Goals as goal

pub returns-clause-all : goal.returns-clause-all
returns-clause-all g c = let V : Type 0 = View g.row.P-Plain.Denot in let B : Type 0 = Pass g.row.P.Denot g.row.P-Plain.Denot g.P.Payload in let view : B → V = λ p. p.place.me.0 in
    let pass : B = c.args.pass in let xs : List B = c.args.passes.now.items in let count : ℕ = c.args.count in
    let numbered : pass.place.me.0.number ≡ pass.number = pass.numbered in let number : pass.place.me.0.number ≡ count + 1 = omega arith in
    subst (λ (vs : List V). AreAll (count + 1) vs) (sym (ap (map view) c.push_reserved.ensures.items ∙ map-append view xs (pass ∷ []))) (all_more count (map view xs) pass.place.me.0 c.requires.all.1 number)
