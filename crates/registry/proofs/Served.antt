-- What is answered to a command by a cell is what the plain map answers.
use Rattle.std.proofs.Common.{◌≡◌, ℕ, Bool, true, false, if◌then◌else◌, List, length, map, Option, Some, None, unwrap_or, sym, refl, ap, ◌∙◌, arith, ◌+◌}
use mathlib.Core.Option.{some}
use lib.ListN.{get_elem?}
use Rattle.imm_base.specs.declared.val.Val.{Val}
use Rattle.imm_base.specs.declared.comparers.ValEq.{ValEq}
use Rattle.imm_base.specs.Edits.{is_over}
use Rattle.imm_base.specs.Order.{val_eq}
use Rattle.imm_dictionary.specs.Mapped.{Mapped}
use Rattle.plain_model.specs.declared.commands.Transform.TheVariants.{Set}
use Rattle.plain_model.specs.declared.history.Reply.TheVariants as replies
use Rattle.plain_model.specs.declared.history.Refusal.TheVariants as refusals
use Rattle.plain_model.specs.declared.plain.Kind.{Kind}
use Rattle.plain_model.specs.declared.plain.Kind.TheVariants as kinds
use Rattle.plain_model.specs.declared.plain.Plain.{Plain}
use Rattle.plain_model.specs.Cell.{Outcome, add_or_update, install_and_reply, is_map, reply_only, try_remove, value_in, where_it_is, with_value}
use Rattle.plain_model.specs.Plain.{count, pairs, shape_of}
use Rattle.version_slots.proofs.Closes.{at_map}
use Rattle.version_slots.proofs.Rows.{map_at}
use Rattle.version_slots.proofs.Seats.{in_range}
use Rattle.interlocked.specs.declared.dict.DictCall.{DictCall}
use Rattle.interlocked.specs.Meanings.{dict_call, dict_plain}
use Rattle.registry.specs.declared.command.Answer.{Answer}
use Rattle.registry.specs.declared.command.Answer.TheVariants as answers
use Rattle.registry.specs.declared.command.Command.{Command}
use Rattle.registry.specs.declared.command.Command.TheVariants as commands
use Rattle.registry.specs.declared.requests.Request.{Request}
use Rattle.registry.specs.declared.requests.Response.{Response}
use Rattle.registry.specs.declared.requests.Response.TheVariants as responses
use Rattle.registry.specs.Registry as registry
use Rattle.registry.specs.Registry.{AreAnswers, AreServed, answer, answer_to, found, request_of, told}
use Rattle.registry.specs.Requests as of_cells
use Rattle.registry.specs.Requests.{AreMade, Has, Responds, in_short}
use Rattle.registry.proofs.Places.{map_length, some_at}

abbrev Map : Type 0
Map = Mapped Val Val ValEq

-- ---- one command

put_told : (name address : Val) (p : Plain) (known : Option Val) → told (in_short (add_or_update name address (Set address) p known).reply) ≡ registry.stored p known
put_told name address p (Some old) = one (val_eq address old)
  where
    one : (b : Bool) → told (in_short (if b then reply_only (replies.Value address) else install_and_reply (with_value name address p) (replies.Value address)).reply) ≡ answers.Stored
    one true = refl
    one false = refl
put_told name address p None = one (is_over (count p.values + 1))
  where
    one : (b : Bool) → told (in_short (if b then reply_only (replies.Refused (refusals.TooLarge (count p.values))) else install_and_reply (with_value name address p) (replies.Value address)).reply) ≡ (if b then answers.Full else answers.Stored)
    one true = refl
    one false = refl

put_next : (name address : Val) (p : Plain) (known : Option Val) → unwrap_or (add_or_update name address (Set address) p known).installs p ≡ registry.put name address p known
put_next name address p (Some old) = one (val_eq address old)
  where
    one : (b : Bool) → unwrap_or (if b then reply_only (replies.Value address) else install_and_reply (with_value name address p) (replies.Value address)).installs p ≡ (if b then p else with_value name address p)
    one true = refl
    one false = refl
put_next name address p None = one (is_over (count p.values + 1))
  where
    one : (b : Bool) → unwrap_or (if b then reply_only (replies.Refused (refusals.TooLarge (count p.values))) else install_and_reply (with_value name address p) (replies.Value address)).installs p ≡ (if b then p else with_value name address p)
    one true = refl
    one false = refl

drop_told : (name : Val) (p : Plain) (known : Option Val) → told (in_short (try_remove name p known).reply) ≡ registry.dropped known
drop_told name p (Some old) = refl
drop_told name p None = refl

drop_next : (name : Val) (p : Plain) (known : Option Val) → unwrap_or (try_remove name p known).installs p ≡ registry.without name p known
drop_next name p (Some old) = refl
drop_next name p None = refl

module _ (eq : ValEq) (p : Plain) (kind : p.kind ≡ kinds.Dict eq) where
  on_dict : (o : Outcome) → where_it_is (is_map (shape_of p.kind)) o ≡ o
  on_dict o = ap (λ (k : Kind). where_it_is (is_map (shape_of k)) o) kind

  right : (command : Command) (response : Response Map) → Responds dict_plain dict_call (request_of command) p response → answer_to command response ≡ answer command p
  right (commands.Put name address) (responses.Reply reply) h =
      ap told h ∙ (ap (λ (o : Outcome). told (in_short o.reply)) (on_dict (add_or_update name address (Set address) p (value_in name p))) ∙ put_told name address p (value_in name p))
  right (commands.Put name address) (responses.Value map) h = absurd h
  right (commands.Drop name) (responses.Reply reply) h =
      ap told h ∙ (ap (λ (o : Outcome). told (in_short o.reply)) (on_dict (try_remove name p (value_in name p))) ∙ drop_told name p (value_in name p))
  right (commands.Drop name) (responses.Value map) h = absurd h
  right (commands.Get name) (responses.Reply reply) h = absurd h
  right (commands.Get name) (responses.Value map) h = ap (λ (q : Plain). found (value_in name q)) h
  right commands.List (responses.Reply reply) h = absurd h
  right commands.List (responses.Value map) h = ap (λ (q : Plain). answers.Listed (pairs q.values)) h

  next_is : (command : Command) → of_cells.next {C = Map} dict_plain dict_call (request_of command) p ≡ registry.next command p
  next_is (commands.Put name address) =
      ap (λ (o : Outcome). unwrap_or o.installs p) (on_dict (add_or_update name address (Set address) p (value_in name p))) ∙ put_next name address p (value_in name p)
  next_is (commands.Drop name) = ap (λ (o : Outcome). unwrap_or o.installs p) (on_dict (try_remove name p (value_in name p))) ∙ drop_next name p (value_in name p)
  next_is (commands.Get name) = refl
  next_is commands.List = refl

-- ---- all commands

module _ (first : Map) (last : Plain) (asked : List Command) (requests : List (Request DictCall)) (are : requests ≡ map request_of asked) (came : List (Option (Response Map))) (given : List Answer)
    (made : AreMade dict_plain dict_call (dict_plain first) last requests came) (many : length given ≡ length came) (told : AreAnswers asked came given) where
  request_at : (k : ℕ) (command : Command) → Has asked k command → Has requests k (request_of command)
  request_at k command e = ap (λ (l : List (Request DictCall)). get_elem? l k) are ∙ at_map request_of asked k command e

  pub all_served : AreServed (dict_plain first) last asked given
  all_served = record {
    history = made.history;
    opens = made.opens;
    ends = made.ends;
    count = many ∙ (made.count ∙ (ap length are ∙ map_length request_of asked));
    each = λ k command one e f.
        let small = in_range given k one f in
        let r = some_at came k (let a = many in omega arith) in
        let t = told.each k command r.0 one e r.1 f in
        let m = made.each k (request_of command) t.0 (request_at k command e) (r.1 ∙ ap (λ (o : Option (Response Map)). some o) t.1) in
        let kind = made.kinds m.place m.value m.there in
        record {
          place = m.place;
          map = m.value;
          there = m.there;
          answers = t.2 ∙ right first.eq m.value kind command t.0 m.responds;
          later = m.later;
          soon = m.soon;
          makes = m.makes ∙ ap (λ (q : Plain). some q) (next_is first.eq m.value kind command);
        };
    steps = λ i value value' e f.
        let s = made.steps i value value' e f in
        let c = map_at request_of asked s.0 s.1 (ap (λ (l : List (Request DictCall)). get_elem? l s.0) (sym are) ∙ s.2) in
        let kind = made.kinds i value e in
        (s.0, c.0, c.1, s.3 ∙ (ap (λ (r : Request DictCall). of_cells.next {C = Map} dict_plain dict_call r value) (sym c.2) ∙ next_is first.eq value kind c.0));
  }
