-- How many first contents a list has.
use Rattle.std.proofs.Common.{◌≡◌, ◌<◌, ◌≤◌, ℕ, zero, suc, Bool, true, false, cond, leb, List, length, map, Ok, Err, refl, ap, sym, ◌∙◌, arith}
use Rattle.std.specs.Prelude.{ℤ, pos, ◌+ℤ◌}
use Rattle.std.proofs.lemmas.Bool.{leb-true, ltb-true, false_from_ne_true}
use Rattle.imm_base.specs.declared.TheConstants.{LIMIT}
use Rattle.imm_base.specs.declared.val.Val.{Val}
use Rattle.imm_base.specs.declared.val.Val.TheVariants.{Int}
use Rattle.imm_base.specs.Edits.{is_over}
use Rattle.plain_model.specs.declared.plain.Kind.TheVariants as kinds
use Rattle.plain_model.specs.declared.plain.Values.{Values}
use Rattle.plain_model.specs.declared.plain.Values.TheVariants as values
use Rattle.plain_model.specs.declared.history.Refusal.TheVariants as refusals
use Rattle.plain_model.specs.Plain.{integers_from, elements, made}
use Rattle.script.specs.Limits.{few_enough}

length-integers : {A : Type 0} (f : ℤ → A) (first : ℤ) (n : ℕ) → length (map f (integers_from first n)) ≡ n
length-integers f first zero = refl
length-integers f first (suc n) = ap suc (length-integers f (first +ℤ pos 1) n)

few_elements : (most : ℕ) (vs : Values) → most ≤ LIMIT → leb (length (elements vs)) most ≡ few_enough most (made kinds.List vs)
few_elements most vs within = by_test (is_over (length (elements vs))) refl
  where
    by_test : (t : Bool) → is_over (length (elements vs)) ≡ t
        → leb (length (elements vs)) most ≡ few_enough most (cond t (Err (refusals.TooLarge 0)) (Ok (record { kind = kinds.List; values = values.List (elements vs) })))
    by_test false is = refl
    by_test true is =
        let over : 65536 < length (elements vs) = ltb-true 65536 (length (elements vs)) is in
        false_from_ne_true _ (λ e. let few : length (elements vs) ≤ most = leb-true (length (elements vs)) most e in absurd (omega (arith, over, few, within)))

pub few_listed : (most : ℕ) (xs : List Val) → most ≤ LIMIT → leb (length xs) most ≡ few_enough most (made kinds.List (values.List xs))
few_listed most xs within = few_elements most (values.List xs) within

pub few_integers : (most : ℕ) (first : ℤ) (n : ℕ) → most ≤ LIMIT → leb n most ≡ few_enough most (made kinds.List (values.Seq first n))
few_integers most first n within = ap (λ k. leb k most) (sym (length-integers Int first n)) ∙ few_elements most (values.Seq first n) within

pub ruleset few_in_list = (few_listed, few_integers)
