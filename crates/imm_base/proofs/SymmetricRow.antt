-- What a symmetric difference answers.
use Rattle.std.proofs.Common.{◌≡◌, ◌≤◌, Bool, true, false, List, [], ◌∷◌, length, arith, ap, ◌∙◌, refl, subst, sym}
use Rattle.std.specs.Prelude.{Ok, ◌==◌}
use Rattle.std.specs.Cmp.{IsEquivalence}
use Rattle.std.specs.Ordering.{eq_by_cmp}
use Rattle.std.specs.declared.cmp.Ordering.{Ordering}
use Rattle.imm_base.specs.declared.TheConstants.{LIMIT}
use Rattle.imm_base.specs.declared.val.Edit.TheVariants.{Same, New}
use Rattle.imm_base.specs.Kept.{IsExact}
use Rattle.imm_base.specs.Sets.{symmetric_difference, set_symmetric_except}
use Rattle.imm_base.proofs.Changes.{edit_same, edit_new, within_limit}
use Rattle.imm_base.proofs.Combined.{symmetric_changes, symmetric_none}

module _ {T : Type 0} (eq : T → T → Bool) (own : T → T → Ordering) (ties : (a b : T) → eq a b ≡ eq_by_cmp own a b) (refl_eq : (a : T) → eq a a ≡ true) (exact : IsExact own) (cmp : T → T → Ordering) (same : T → T → Bool) (equal : IsEquivalence same) where
  none_from_length : (ys : List T) → length ys ≡ 0 → ys ≡ []
  none_from_length [] e = refl
  none_from_length (y ∷ ys) e = absurd (omega (arith, e))

  pub symmetric_row_same : (ys xs zs : List T) → true ≡ (length ys == 0) → zs ≡ symmetric_difference cmp same xs ys → length zs ≤ LIMIT → set_symmetric_except eq cmp same ys xs ≡ Ok Same
  symmetric_row_same ys xs zs none is fits =
      let no_values : ys ≡ [] = none_from_length ys (grind arith) in
      within_limit eq xs (symmetric_difference cmp same xs ys) (subst (λ (us : List T). length us ≤ LIMIT) is fits)
      ∙ edit_same eq own ties refl_eq exact xs (symmetric_difference cmp same xs ys) (ap (λ us. symmetric_difference cmp same xs us) no_values ∙ symmetric_none cmp same equal xs)

  pub symmetric_row_new : (ys xs zs : List T) → false ≡ (length ys == 0) → zs ≡ symmetric_difference cmp same xs ys → length zs ≤ LIMIT → set_symmetric_except eq cmp same ys xs ≡ Ok (New zs)
  symmetric_row_new ys xs zs some is fits =
      let values : ys ≡ [] → ⊥ = λ e. (let none : length ys ≡ 0 = ap length e in grind arith) in
      within_limit eq xs (symmetric_difference cmp same xs ys) (subst (λ (us : List T). length us ≤ LIMIT) is fits)
      ∙ edit_new eq own ties refl_eq exact xs (symmetric_difference cmp same xs ys) (symmetric_changes cmp same equal xs ys values)
      ∙ ap (λ us. Ok (New us)) (sym is)
