-- The line of one call or read.
use Rattle.std.proofs.Common.{◌≡◌, ℕ, ◌<◌, false, List, [], ◌∷◌, ◌++◌, None, Some, refl, ap, sym, subst, ◌∙◌, arith}
use Rattle.std.specs.Prelude.{Option, IfSome}
use Rattle.imm_base.specs.declared.val.Val.{Val}
use Rattle.plain_model.specs.declared.commands.Factory.{Factory}
use Rattle.plain_model.specs.declared.commands.Probe.{Probe}
use Rattle.plain_model.specs.declared.commands.Probe.TheVariants.{Idle, Ran}
use Rattle.plain_model.specs.declared.commands.PlainCall.{PlainCall}
use Rattle.plain_model.specs.declared.commands.PlainCall.TheVariants as calls
use Rattle.plain_model.specs.declared.history.Line.{Line}
use Rattle.plain_model.specs.declared.history.Reply.{Reply}
use Rattle.plain_model.specs.declared.history.Reply.TheVariants.{Count, Value}
use Rattle.plain_model.specs.declared.plain.Plain.{Plain}
use Rattle.plain_model.specs.declared.plain.Values.{Values}
use Rattle.plain_model.specs.declared.plain.Values.TheVariants as values
use Rattle.plain_model.specs.Cell.{count_reply, reply_only}
use Rattle.plain_model.specs.History.{probe_of}
use Rattle.plain_model.specs.Plain.{count, is_unset}
use Rattle.interlocked.specs.declared.answers.Stamp.{Stamp}
use Rattle.interlocked.specs.Called.{IsDone, IsRead}
use Rattle.interlocked.specs.Factories.{FoundAt, Looks}
use Rattle.interlocked.specs.Known.{Known, IsStill}
use Rattle.interlocked.specs.Rights.{Made, Shows}
use Rattle.interlocked.proofs.FactoryCalls.{done_idle, done_since, found_idle, later_since, ran_at}
use Rattle.seats.specs.Seats.{HasProbed}
use Rattle.seats.specs.Steps.{stamped_line, IsCalled, IsDoneAndNoted}

-- what is no unset array is counted
counted : (vs : Values) → is_unset vs ≡ false → count_reply vs ≡ Count (count vs)
counted values.Unset set = absurd cc
counted (values.List xs) set = refl
counted (values.Pairs ps) set = refl
counted (values.Seq first n) set = refl

module _ (p q : Known) (o : ℕ) (log log' : List Line) where
  -- a call that was done
  done_line : (call : PlainCall) (reply : Reply) (stamp : Stamp) → IsDone p o call q reply stamp → HasProbed p reply q stamp (probe_of call) → log' ≡ log ++ stamped_line p.view.number o call reply stamp ∷ []
      → IsCalled p log o call None q log'
  done_line call reply stamp d probe grown = record {
    line = stamped_line p.view.number o call reply stamp;
    is_numbered = refl;
    grown = grown;
    below = let e = d.last in omega arith;
    is = record {
      stamp = stamp;
      later = d.later;
      position = refl;
      installed = refl;
      caller = refl;
      made = d.made;
      probe = probe;
      value = tt;
    };
  }

  -- a call that a look answers
  still_line : (call : PlainCall) (reply : Reply) (stamp : Stamp) (read : Option Plain) → p.last < o → IsStill p q → Made p.view q.view o call reply stamp → HasProbed p reply q stamp (probe_of call)
      → IfSome read (Shows q.view.seen stamp.position) → log' ≡ log ++ stamped_line p.view.number o call reply stamp ∷ [] → IsCalled p log o call read q log'
  still_line call reply stamp read above still made probe value grown = record {
    line = stamped_line p.view.number o call reply stamp;
    is_numbered = refl;
    grown = grown;
    below = let e = still.last in omega arith;
    is = record {
      stamp = stamp;
      later = still.later;
      position = refl;
      installed = refl;
      caller = refl;
      made = made;
      probe = probe;
      value = value;
    };
  }

  -- a call without a factory
  pub call_line : (call : PlainCall) → IsDoneAndNoted p log o call q log' → probe_of call ≡ None → IsCalled p log o call None q log'
  call_line call h none = done_line call h.reply h.stamp h.done (subst (HasProbed p h.reply q h.stamp) (sym none) tt) h.grown

  pub read_line : (stamp : Stamp) (got : Plain) → p.last < o → IsRead p got q stamp → is_unset got.values ≡ false → log' ≡ log ++ stamped_line p.view.number o calls.Read (Count (count got.values)) stamp ∷ []
      → IsCalled p log o calls.Read (Some got) q log'
  read_line stamp got above r set grown =
      still_line calls.Read (Count (count got.values)) stamp (Some got) above r.still (r.made.answers o calls.Read (Count (count got.values)) (ap reply_only (counted got.values set))) tt r.made.there grown

  -- a call whose factory did not run, since its look found the key
  pub idle_line : (stamp : Stamp) (key u : Val) (make : Factory) → p.last < o → Looks p key (Some u) q stamp → log' ≡ log ++ stamped_line p.view.number o (calls.GetOrAddMade key make Idle) (Value u) stamp ∷ []
      → IsCalled p log o (calls.GetOrAddMade key make Idle) None q log'
  idle_line stamp key u make above looks grown =
      let r : Known = record q { last = o } in
      let found : FoundAt key (Value u) r stamp = found_idle p q key u stamp looks o r refl in
      still_line (calls.GetOrAddMade key make Idle) (Value u) stamp None above looks.read.still (done_idle p q key u stamp looks o make r refl).made
      (record { got = found.got; there = found.there; value = found.value; present = found.present; reply_is = found.reply_is }) tt grown

  -- a call whose factory ran, since its look missed the key
  pub ran_line : (m : Known) (stamp : Stamp) (key : Val) (make : Factory) → Looks p key None m stamp → IsDoneAndNoted m log o (calls.GetOrAddMade key make (Ran stamp.position)) q log'
      → IsCalled p log o (calls.GetOrAddMade key make (Ran stamp.position)) None q log'
  ran_line m stamp key make looks h =
      let call : PlainCall = calls.GetOrAddMade key make (Ran stamp.position) in
      let still = looks.read.still in
      done_line call h.reply h.stamp (done_since p m q still o call h.reply h.stamp h.done) (ran_at p m q key stamp looks o call h.reply h.stamp h.done)
      (h.grown ∙ ap (λ w. log ++ stamped_line w o call h.reply h.stamp ∷ []) still.later.number)
