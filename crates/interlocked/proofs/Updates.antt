-- What a conditional update answers, by the value of the key.
use Rattle.std.proofs.Common.{◌≡◌, ℕ, ◌-◌, Bool, true, false, cond, MatchBool, Option, Some, None, sym, refl, ap, ◌∙◌, subst, inl, inr, ⊎_elim, arith}
use mathlib.Core.Option.{some}
use lib.ListN.{get_elem?}
use Rattle.imm_base.specs.declared.val.Val.{Val}
use Rattle.imm_base.specs.Order.{val_eq}
use Rattle.plain_model.specs.declared.plain.Kind.{Kind}
use Rattle.plain_model.specs.declared.plain.Plain.{Plain}
use Rattle.plain_model.specs.declared.history.Reply.{Reply}
use Rattle.plain_model.specs.declared.history.Reply.TheVariants.{Flag}
use Rattle.plain_model.specs.declared.commands.PlainCall.TheVariants as calls
use Rattle.plain_model.specs.Cell.{Outcome, cell, reply_only, install_and_reply, where_it_is, with_value, try_update, value_in}
use Rattle.version_slots.specs.declared.view.Line.{Line}
use Rattle.interlocked.specs.declared.answers.Stamp.{Stamp}
use Rattle.interlocked.specs.declared.entry.Kept.{Kept}
use Rattle.interlocked.specs.Called.{IsDone}
use Rattle.interlocked.specs.Entries.{kind_in}
use Rattle.interlocked.specs.Known.{Known}
use Rattle.interlocked.specs.Rights.{IsAnswered, IsInstalled, Shows}
use Rattle.interlocked.specs.Updates.{IsMap, IsMapKind, TellsThere, TellsValue}
use Rattle.interlocked.proofs.OneKind.{kind_at}

module _ (p : Plain) (key value comparison : Val) where
  found : (u : Val) (b : Bool) → value_in key p ≡ Some u → val_eq u comparison ≡ b → (r : Reply) → r ≡ (cond b (install_and_reply (with_value key value p) (Flag true)) (reply_only (Flag false))).reply → TellsValue p key comparison r
  found u true is test r reply = record {
    changed = ((λ _. (u, is, test)), λ _. reply);
    unchanged = (
      (λ e. absurd (let x : Flag false ≡ Flag true = sym e ∙ reply in cc)),
      λ h. absurd (⊎_elim (λ (n : value_in key p ≡ None). let x : None ≡ Some u = sym n ∙ is in cc)
          (λ (n : (w : Val) × (value_in key p ≡ Some w) × (val_eq w comparison ≡ false)). let x : Some n.0 ≡ Some u = sym n.1 ∙ is in let same : n.0 ≡ u = cc in let y : true ≡ false = sym test ∙ (ap (λ w. val_eq w comparison) (sym same) ∙ n.2) in cc) h),
    );
  }
  found u false is test r reply = record {
    changed = (
      (λ e. absurd (let x : Flag true ≡ Flag false = sym e ∙ reply in cc)),
      λ h. absurd (let x : Some h.0 ≡ Some u = sym h.1 ∙ is in let same : h.0 ≡ u = cc in let y : false ≡ true = sym test ∙ (ap (λ w. val_eq w comparison) (sym same) ∙ h.2) in cc),
    );
    unchanged = ((λ _. inr (u, is, test)), λ _. reply);
  }

  by_value : (o : Option Val) → value_in key p ≡ o → (r : Reply) → r ≡ (try_update key value comparison p o).reply → TellsValue p key comparison r
  by_value None is r reply = record {
    changed = ((λ e. absurd (let x : Flag true ≡ Flag false = sym e ∙ reply in cc)), λ h. absurd (let x : None ≡ Some h.0 = sym is ∙ h.1 in cc));
    unchanged = ((λ _. inl is), λ _. reply);
  }
  by_value (Some u) is r reply = found u (val_eq u comparison) is refl r reply

  pub update_tells : IsMap p → TellsValue p key comparison (cell (calls.TryUpdate key value comparison) p).reply
  update_tells map = by_value (value_in key p) refl (cell (calls.TryUpdate key value comparison) p).reply
      (ap (λ (b : Bool). (where_it_is b (try_update key value comparison p (value_in key p))).reply) map)

-- the same of a call that is done, in the value at its place
module _ (p q : Known) (ordinal : ℕ) (key value comparison : Val) (reply : Reply) (stamp : Stamp)
    (done : IsDone p ordinal (calls.TryUpdate key value comparison) q reply stamp) (kind : q.kind ≡ kind_in q.view.seen) (map : IsMapKind p.kind) where
  map_at : (i : ℕ) (l : Line Kept) → get_elem? q.view.seen i ≡ some l → IsMap l.value.value
  map_at i l at = subst (λ (k : Kind). IsMapKind k) (sym (kind_at q.view.seen done.knows.linked i l at ∙ (sym kind ∙ done.later.kind))) map

  tells_at : (i : ℕ) (l : Line Kept) → get_elem? q.view.seen i ≡ some l → (cell (calls.TryUpdate key value comparison) l.value.value).reply ≡ reply → TellsValue l.value.value key comparison reply
  tells_at i l at is = subst (λ (r : Reply). TellsValue l.value.value key comparison r) is (update_tells l.value.value key value comparison (map_at i l at))

  abbrev Told : ℕ → Type 0
  Told position = (got : Plain) × Shows q.view.seen position got × TellsValue got key comparison reply

  there : (b : Bool) (position : ℕ) → MatchBool b (IsInstalled q.view.seen p.view.number ordinal (calls.TryUpdate key value comparison) reply position) (IsAnswered q.view.seen (calls.TryUpdate key value comparison) reply position)
      → Told (cond b (position - 1) position)
  there true position h = let e : position - 1 ≡ h.before = omega (arith, h.place) in
      (h.line.value.value, record { line = h.line; at = ap (get_elem? q.view.seen) e ∙ h.at; value = refl }, tells_at h.before h.line h.at (ap (λ (o : Outcome). o.reply) h.outcome))
  there false position h = (h.line.value.value, record { line = h.line; at = h.at; value = refl }, tells_at position h.line h.at (ap (λ (o : Outcome). o.reply) h.outcome))

  pub tells_there : TellsThere q.view.seen stamp key comparison reply
  tells_there = let t = there stamp.installed stamp.position done.made.stands in record { got = t.0; there = t.1; tells = t.2 }
