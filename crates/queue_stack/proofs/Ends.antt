-- What the rows of stacks and queues give, by the count of the elements.
use Rattle.std.proofs.Common.{◌≡◌, true, false, List, [], ◌∷◌, length, drop, arith, refl, Ok, Err}
use Rattle.imm_base.specs.declared.val.Edit.TheVariants.{New}
use Rattle.imm_base.specs.Edits.{empty}
use Rattle.imm_base.specs.Lists.{is_empty, remove_first}

module _ {T : Type 0} where
  pub remove_first_none : (xs : List T) → length xs ≡ 0 → remove_first xs ≡ Err empty
  remove_first_none [] none = refl
  remove_first_none (x ∷ xs) none = absurd (omega arith)

  pub remove_first_some : (xs : List T) → (length xs ≡ 0 → ⊥) → remove_first xs ≡ Ok (New (drop 1 xs))
  remove_first_some [] some = absurd (some refl)
  remove_first_some (x ∷ xs) some = refl

  pub is_empty_yes : (xs : List T) → length xs ≡ 0 → is_empty xs ≡ true
  is_empty_yes [] none = refl
  is_empty_yes (x ∷ xs) none = absurd (omega arith)

  pub is_empty_no : (xs : List T) → (length xs ≡ 0 → ⊥) → is_empty xs ≡ false
  is_empty_no [] some = absurd (some refl)
  is_empty_no (x ∷ xs) some = refl

pub ruleset ends = (remove_first_none, remove_first_some, is_empty_yes, is_empty_no)
