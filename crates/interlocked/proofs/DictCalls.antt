-- What a call on a cell with a dictionary does.
use Rattle.std.proofs.Common.{◌≡◌, ◌+◌, ℕ, Bool, true, false, length, sym, refl, ap, ◌∙◌, subst, Option, Some, None, Result, IfOk, is_some, option_map, if◌then◌else◌}
use Rattle.imm_base.specs.declared.val.Val.{Val}
use Rattle.imm_base.specs.declared.comparers.ValEq.{ValEq}
use Rattle.imm_base.specs.declared.val.Edit.TheVariants.{Same, New}
use Rattle.imm_base.specs.Edits.{is_over}
use Rattle.imm_base.specs.Order.{val_cmp, eq_same}
use Rattle.imm_base.specs.Maps.{with_pair, without_key, entry_of, has_key}
use Rattle.imm_dictionary.specs.Mapped.{Mapped}
use Rattle.plain_model.specs.declared.plain.Kind.TheVariants as kinds
use Rattle.plain_model.specs.declared.plain.Values.TheVariants as values
use Rattle.plain_model.specs.declared.plain.Plain.{Plain}
use Rattle.plain_model.specs.declared.history.Reply.{Reply}
use Rattle.plain_model.specs.declared.history.Reply.TheVariants.{Taken, Refused}
use Rattle.plain_model.specs.declared.history.Refusal.TheVariants as refusals
use Rattle.plain_model.specs.Cell.{Outcome, install_and_reply, reply_only, with_value, without_value, add_if_room, value_in}
use Rattle.interlocked.specs.declared.change.Outcome as change
use Rattle.interlocked.specs.Meanings.{dict_plain}
use Rattle.interlocked.specs.Outcomes.{IsOutcome}
use Rattle.interlocked.proofs.Applied.{stays, grows}

found : {S T : Type 0} (f : S → T) (o : Option S) (t : T) → option_map f o ≡ Some t → is_some o ≡ true
found f None t is = absurd (let e : ◌≡◌ {A = Option _} None (Some t) = is in cc)
found f (Some s) t is = refl

module _ (old : Mapped Val Val ValEq) where
  abbrev pub P : Plain
  P = dict_plain old

  -- the outcome is given, as one on this dictionary
  abbrev pub Gives : Outcome → change.Outcome (Mapped Val Val ValEq) → Type 0
  Gives given o = IsOutcome dict_plain (kinds.Dict old.eq) given o

  pub replies : (given : Outcome) (reply : Reply) → given ≡ reply_only reply → Gives given (record { edit = Same; reply = reply })
  replies given reply is = stays dict_plain (kinds.Dict old.eq) given reply is

  module _ (m : Mapped Val Val ValEq) (key : Val) (eq : m.eq ≡ old.eq) where
    pub put : (value : Val) (reply : Reply) → m.pairs ≡ with_pair val_cmp (eq_same old.eq) key value old.pairs → Gives (install_and_reply (with_value key value P) reply) (record { edit = New m; reply = reply })
    put value reply pairs = grows dict_plain (kinds.Dict old.eq) (install_and_reply (with_value key value P) reply) m reply
        (λ k. install_and_reply (record { kind = kinds.Dict (sym eq k); values = values.Pairs (sym pairs k) }) reply) (ap kinds.Dict eq)

    pub taken : (value : Val) → m.pairs ≡ without_key (eq_same old.eq) key old.pairs → Gives (install_and_reply (without_value key P) (Taken value)) (record { edit = New m; reply = Taken value })
    taken value pairs = grows dict_plain (kinds.Dict old.eq) (install_and_reply (without_value key P) (Taken value)) m (Taken value)
        (λ k. install_and_reply (record { kind = kinds.Dict (sym eq k); values = values.Pairs (sym pairs k) }) (Taken value)) (ap kinds.Dict eq)

  pub present : (key value : Val) → value_in key P ≡ Some value → has_key (eq_same old.eq) key old.pairs ≡ true
  present key value is = found (λ (e : Val × Val). e.1) (entry_of (eq_same old.eq) key old.pairs) value is

  module _ (key value : Val) (reply : Reply) where
    abbrev by_room : Bool → Outcome
    by_room b = if b then reply_only (Refused (refusals.TooLarge (length old.pairs))) else install_and_reply (with_value key value P) reply

    pub full : is_over (length old.pairs + 1) ≡ true → (n : ℕ) → n ≡ length old.pairs → Gives (add_if_room key value reply P) (record { edit = Same; reply = Refused (refusals.TooLarge n) })
    full over n is = replies (add_if_room key value reply P) (Refused (refusals.TooLarge n)) (ap by_room over ∙ ap (λ (k : ℕ). reply_only (Refused (refusals.TooLarge k))) (sym is))

    pub room_for : is_over (length old.pairs + 1) ≡ false → {E : Type 0} (r : Result (change.Outcome (Mapped Val Val ValEq)) E) → IfOk r (Gives (install_and_reply (with_value key value P) reply)) → IfOk r (Gives (add_if_room key value reply P))
    room_for fits r h = subst (λ (given : Outcome). IfOk r (Gives given)) (sym (ap by_room fits)) h

  -- what is done is what is done by the value of the key
  module _ (key : Val) (by : Option Val → Outcome) (o : Option Val) (is : o ≡ value_in key P) where
    pub replied : (reply : Reply) → by o ≡ reply_only reply → (out : change.Outcome (Mapped Val Val ValEq)) → out ≡ record { edit = Same; reply = reply } → Gives (by (value_in key P)) out
    replied reply stays out same = subst (λ (x : change.Outcome (Mapped Val Val ValEq)). Gives (by (value_in key P)) x) (sym same) (replies (by (value_in key P)) reply (ap by (sym is) ∙ stays))

    pub done_by : {E : Type 0} (r : Result (change.Outcome (Mapped Val Val ValEq)) E) → IfOk r (Gives (by o)) → IfOk r (Gives (by (value_in key P)))
    done_by r h = subst (λ (v : Option Val). IfOk r (Gives (by v))) is h
