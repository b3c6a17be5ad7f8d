-- What an operation on a list of elements gives is what the call on the plain value does.
use Rattle.std.proofs.Common.{◌≡◌, List, [], ◌∷◌, sym, refl, ap, ◌∙◌, subst, Option, Some, None, Ok, Err, slice_get}
use Rattle.imm_base.specs.declared.val.Val.{Val}
use Rattle.imm_base.specs.declared.val.Edit.{Edit}
use Rattle.imm_base.specs.declared.val.Edit.TheVariants.{Same, New}
use Rattle.imm_base.specs.Edits.{Gives, Why}
use Rattle.imm_base.specs.Lists.{remove_first}
use Rattle.plain_model.specs.declared.plain.Kind.{Kind}
use Rattle.plain_model.specs.declared.plain.Plain.{Plain}
use Rattle.plain_model.specs.declared.commands.PlainCall.{PlainCall}
use Rattle.plain_model.specs.declared.history.Reply.{Reply}
use Rattle.plain_model.specs.declared.history.Reply.TheVariants.{Flag, Taken, Missing, Refused}
use Rattle.plain_model.specs.declared.history.Refusal.{Refusal}
use Rattle.plain_model.specs.Plain.{of_list, refusal}
use Rattle.plain_model.specs.Cell.{Outcome, cell, update, try_take, reply_only, install_and_reply}
use Rattle.interlocked.specs.declared.change.Outcome as change
use Rattle.interlocked.specs.Meanings.{listed}
use Rattle.interlocked.specs.Outcomes.{Applies, IsOutcome, is_new}

-- an outcome of the plain model that installs nothing, and one that installs a value of the kind
module _ {C : Type 0} (plain : C → Plain) (kind : Kind) (given : Outcome) where
  pub stays : (reply : Reply) → given ≡ reply_only reply → IsOutcome plain kind given (record { edit = Same; reply = reply })
  stays reply is = record { reply = sym (ap (λ (o : Outcome). o.reply) is); edit = ap (λ (o : Outcome). o.installs) is; kind = tt }

  pub grows : (c : C) (reply : Reply) → given ≡ install_and_reply (plain c) reply → (plain c).kind ≡ kind → IsOutcome plain kind given (record { edit = New c; reply = reply })
  grows c reply is of = record { reply = sym (ap (λ (o : Outcome). o.reply) is); edit = ap (λ (o : Outcome). o.installs) is; kind = of }

module _ (kind : Kind) (call : PlainCall) (xs : List Val) where
  abbrev P : Plain
  P = listed kind xs

  pub edited : (gives : Gives Val (List Val)) → cell call P ≡ update (of_list P gives) → (edit : Edit (List Val)) → gives ≡ Ok edit → Applies (listed kind) call P (record { edit = edit; reply = Flag (is_new edit) })
  edited gives is Same given = stays (listed kind) kind (cell call P) (Flag _) (is ∙ ap (λ (g : Gives Val (List Val)). update (of_list P g)) given)
  edited gives is (New ys) given = grows (listed kind) kind (cell call P) ys (Flag _) (is ∙ ap (λ (g : Gives Val (List Val)). update (of_list P g)) given) refl

  pub declined : (gives : Gives Val (List Val)) → cell call P ≡ update (of_list P gives) → (why : Why Val) → gives ≡ Err why → Applies (listed kind) call P (record { edit = Same; reply = Refused (refusal why) })
  declined gives is why given = stays (listed kind) kind (cell call P) (Refused (refusal why)) (is ∙ ap (λ (g : Gives Val (List Val)). update (of_list P g)) given)

no_element : (x : Val) → ◌≡◌ {A = Option Val} None (Some x) → ⊥
no_element x e = absurd (let u : ◌≡◌ {A = Option Val} None (Some x) = e in cc)

no_edit : (edit : Edit (List Val)) (why : Why Val) → ◌≡◌ {A = Gives Val (List Val)} (Ok edit) (Err why) → ⊥
no_edit edit why e = absurd (let u : ◌≡◌ {A = Gives Val (List Val)} (Ok edit) (Err why) = e in cc)

-- the first element is taken, where there is one
pub none_taken : (kind : Kind) (call : PlainCall) (xs : List Val) → cell call (listed kind xs) ≡ try_take (listed kind xs) xs → xs ≡ [] → Applies (listed kind) call (listed kind xs) (record { edit = Same; reply = Missing })
none_taken kind call xs is none = stays (listed kind) kind (cell call (listed kind xs)) Missing (is ∙ ap (try_take (listed kind xs)) none)

pub first_taken : (kind : Kind) (call : PlainCall) (xs : List Val) → cell call (listed kind xs) ≡ try_take (listed kind xs) xs → (x : Val) → slice_get xs 0 ≡ Some x → (edit : Edit (List Val)) → remove_first xs ≡ Ok edit
    → Applies (listed kind) call (listed kind xs) (record { edit = edit; reply = Taken x })
first_taken kind call [] is x first edit rest = absurd (let e : ◌≡◌ {A = Option Val} None (Some x) = first in cc)
first_taken kind call (y ∷ ys) is x first Same rest = absurd (let e : ◌≡◌ {A = Edit (List Val)} (New ys) Same = (let g = rest in cc) in cc)
first_taken kind call (y ∷ ys) is x first (New zs) rest = let top : y ≡ x = cc in let left : ys ≡ zs = cc in
    grows (listed kind) kind (cell call (listed kind (y ∷ ys))) zs (Taken x) (is ∙ (λ k. install_and_reply (listed kind (left k)) (Taken (top k)))) refl

-- what has a first element is not refused
pub not_empty : (xs : List Val) (x : Val) → slice_get xs 0 ≡ Some x → (why : Why Val) → remove_first xs ≡ Err why → ⊥
not_empty [] x first why refused = let e : ◌≡◌ {A = Option Val} None (Some x) = first in absurd (no_element x e)
not_empty (y ∷ ys) x first why refused = absurd (no_edit (New ys) why refused)
