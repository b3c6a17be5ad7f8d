-- What a call of a crate of collections comes to is what the plain model says.
use Rattle.std.proofs.Common.{◌≡◌, Ok, Err, Option, Some, None, ap, sym, ◌∙◌, refl}
use Rattle.std.specs.Prelude.{Result, IfOk, IfSome}
use Rattle.imm_base.specs.declared.val.Val.{Val}
use Rattle.imm_base.specs.declared.val.Edit.{Edit}
use Rattle.imm_base.specs.declared.val.Edit.TheVariants.{Same, New}
use Rattle.imm_base.specs.Answers.{Answers}
use Rattle.imm_base.specs.Edits.{Why, Gives}
use Rattle.plain_model.specs.declared.history.Refusal.{Refusal}
use Rattle.plain_model.specs.Plain.{refusal}
use Rattle.collections.specs.Changes.{refused_by, judged_by, change_map, made_map, or_unchanged}

-- `view` is how the plain model sees what a row gives, and `seen` how it sees what was answered.
module _ {F R C V : Type 0} (why : F → Option (Why Val)) (seen : Result R Refusal → V) (view : Gives Val C → V)
    (refuses : (w : Why Val) → view (Err w) ≡ seen (Err (refusal w))) where
  refused : (told : Option (Why Val)) (gives : Gives Val C) → IfSome told (λ w. gives ≡ Err w)
      → IfOk (refused_by {T = R} told) (λ c. seen c ≡ view gives)
  refused None gives e = tt
  refused (Some w) gives e = sym (ap view e ∙ refuses w)

  pub judged_is : (IsGiven : R → Gives Val C → Type 0)
      → ((answer : R) (gives : Gives Val C) → IsGiven answer gives → seen (Ok answer) ≡ view gives)
      → (called : Result R F) (gives : Gives Val C) → Answers why IsGiven called gives
      → IfOk (judged_by why called) (λ c. seen c ≡ view gives)
  judged_is IsGiven given (Ok answer) gives h = given answer gives h
  judged_is IsGiven given (Err fault) gives h = refused (why fault) gives h

-- what a change makes of a collection, seen through f
pub or_unchanged-map : {C D : Type 0} (f : C → D) (old : C) (change : Result (Edit C) Refusal)
    → made_map f (or_unchanged old change) ≡ or_unchanged (f old) (change_map f change)
or_unchanged-map f old (Ok Same) = refl
or_unchanged-map f old (Ok (New other)) = refl
or_unchanged-map f old (Err r) = refl
