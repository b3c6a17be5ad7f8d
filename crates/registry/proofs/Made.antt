-- What one request comes to stands in what its pass has seen.
use Rattle.std.proofs.Common.{◌≡◌, inl, inr, ℕ, suc, Bool, true, false, MatchBool, List, [], ◌∷◌, ◌++◌, Some, None, get_or, unwrap_or, sym, refl, ap, ◌∙◌, subst, arith}
use mathlib.Core.Option.{some}
use Rattle.plain_model.specs.declared.plain.Plain.{Plain}
use Rattle.plain_model.specs.declared.commands.PlainCall.{PlainCall}
use Rattle.plain_model.specs.declared.history.Reply.{Reply}
use Rattle.plain_model.specs.Cell.{Outcome, after}
use Rattle.version_slots.specs.declared.view.Line.{Line}
use Rattle.version_slots.proofs.Closes.{at_map}
use Rattle.interlocked.specs.declared.answers.Stamp.{Stamp}
use Rattle.interlocked.specs.declared.entry.Kept.{Kept}
use Rattle.interlocked.specs.Called.{IsDone, IsRead, IsOutOfMemory}
use Rattle.interlocked.specs.Entries.{entry, added}
use Rattle.interlocked.specs.Known.{Known}
use Rattle.interlocked.specs.Rights.{IsAnswered, IsInstalled}
use Rattle.registry.specs.declared.requests.Request.{Request}
use Rattle.registry.specs.declared.requests.Request.TheVariants.{Change, Read}
use Rattle.registry.specs.declared.requests.Response.{Response}
use Rattle.registry.specs.declared.requests.Response.TheVariants as responses
use Rattle.registry.specs.Requests.{Has, IsMade, in_short}
use Rattle.registry.specs.declared.requests.Seat.{Seat}
use Rattle.registry.specs.Seats.{AddsAtMost, MadeAt, Makes, values}
use Rattle.registry.proofs.Places.{is_at}

abbrev value_of : Line Kept → Plain
value_of l = l.value.value

module _ {C X : Type 0} (plain : C → Plain) (meaning : X → PlainCall) where
  installed : (hist : List (Line Kept)) (caller ordinal : ℕ) (change : X) (reply : Reply) (position : ℕ) → IsInstalled hist caller ordinal (meaning change) reply position
      → IsMade plain meaning (values hist) (Change change) (responses.Reply (in_short reply))
  installed hist caller ordinal change reply position h =
      let p : Plain = h.line.value.value in
      let same : h.next.value.value ≡ after (meaning change) p = ap (λ (k : Kept). k.value) h.grows ∙ sym (ap (λ (o : Outcome). unwrap_or o.installs p) h.outcome) in
      record {
        place = h.before;
        value = p;
        there = at_map value_of hist h.before h.line h.at;
        responds = sym (ap (λ (o : Outcome). in_short o.reply) h.outcome);
        later = suc h.before;
        soon = (omega arith, omega arith);
        makes = at_map value_of hist (suc h.before) h.next h.there ∙ ap (λ (q : Plain). some q) same;
      }

  answered : (hist : List (Line Kept)) (change : X) (reply : Reply) (position : ℕ) → IsAnswered hist (meaning change) reply position
      → IsMade plain meaning (values hist) (Change change) (responses.Reply (in_short reply))
  answered hist change reply position h =
      let p : Plain = h.line.value.value in
      let same : after (meaning change) p ≡ p = ap (λ (o : Outcome). unwrap_or o.installs p) h.outcome in
      record {
        place = position;
        value = p;
        there = at_map value_of hist position h.line h.at;
        responds = sym (ap (λ (o : Outcome). in_short o.reply) h.outcome);
        later = position;
        soon = (omega arith, omega arith);
        makes = at_map value_of hist position h.line h.at ∙ ap (λ (q : Plain). some q) (sym same);
      }

  stands : (b : Bool) (hist : List (Line Kept)) (caller ordinal : ℕ) (change : X) (reply : Reply) (position : ℕ)
      → MatchBool b (IsInstalled hist caller ordinal (meaning change) reply position) (IsAnswered hist (meaning change) reply position)
      → IsMade plain meaning (values hist) (Change change) (responses.Reply (in_short reply))
  stands true hist caller ordinal change reply position h = installed hist caller ordinal change reply position h
  stands false hist caller ordinal change reply position h = answered hist change reply position h

  adds : (b : Bool) (p q : Known) (change : X) → MatchBool b (added q.view.mine ≡ added p.view.mine ++ entry p.view.number 1 (meaning change) ∷ []) (q.view.mine ≡ p.view.mine)
      → AddsAtMost plain meaning (Change change) p.view q.view
  adds true p q change h = inr (change, refl, h)
  adds false p q change h = inl (ap added h)

  pub makes_change : (p q : Known) (change : X) (reply : Reply) (stamp : Stamp) → IsDone p 1 (meaning change) q reply stamp → Makes plain meaning (Change change) p q (Some (responses.Reply (in_short reply)))
  makes_change p q change reply stamp h = record {
    table = h.later.table;
    number = h.later.number;
    adds = adds stamp.installed p q change h.made.mine;
    made = stands stamp.installed q.view.seen p.view.number 1 change reply stamp.position h.made.stands;
  }

  pub makes_read : (p q : Known) (got : C) (stamp : Stamp) → IsRead p (plain got) q stamp → Makes plain meaning Read p q (Some (responses.Value got))
  makes_read p q got stamp h =
      let at : Has (values q.view.seen) stamp.position (plain got) = at_map value_of q.view.seen stamp.position h.made.there.line h.made.there.at ∙ ap (λ (r : Plain). some r) h.made.there.value in
      record {
        table = h.still.later.table;
        number = h.still.later.number;
        adds = inl (ap added h.still.mine);
        made = record { place = stamp.position; value = plain got; there = at; responds = refl; later = stamp.position; soon = (omega arith, omega arith); makes = at };
      }

  pub makes_none : (p q : Known) (request : Request X) → IsOutOfMemory p q → Makes plain meaning request p q None
  makes_none p q request h = record { table = h.still.later.table; number = h.still.later.number; adds = inl (ap added h.still.mine); made = tt }

  pub made_at : (requests : List (Request X)) (index : ℕ) (request : Request X) (s t : Seat Known (Response C)) → request ≡ get_or requests index request → Makes plain meaning request s.pass t.pass t.response → MadeAt plain meaning requests index s t
  made_at requests index request s t is h = record {
    made = λ r e. subst (λ (q : Request X). Makes plain meaning q s.pass t.pass t.response) (is ∙ is_at requests index r request e) h;
  }
