-- A look and then a call are one call, and a look that finds the key is one by itself.
use Rattle.std.proofs.Common.{◌≡◌, ℕ, ◌+◌, ◌<◌, ◌≤◌, Bool, true, false, MatchBool, length, List, Option, Some, None, Result, Ok, Err, IfErr, sym, refl, ap, ◌∙◌, subst, arith}
use mathlib.Core.Option.{some}
use lib.ListN.{get_elem?}
use Rattle.imm_base.specs.declared.val.Val.{Val}
use Rattle.plain_model.specs.declared.plain.Plain.{Plain}
use Rattle.plain_model.specs.declared.commands.Factory.{Factory}
use Rattle.plain_model.specs.declared.commands.Probe.TheVariants.{Idle, Ran}
use Rattle.plain_model.specs.declared.commands.PlainCall.{PlainCall}
use Rattle.plain_model.specs.declared.commands.PlainCall.TheVariants as calls
use Rattle.plain_model.specs.declared.history.Reply.{Reply}
use Rattle.plain_model.specs.declared.history.Reply.TheVariants.{Value}
use Rattle.plain_model.specs.Cell.{cell, reply_only, where_it_is, get_or_add_made, value_in}
use Rattle.version_slots.specs.declared.view.View.{View}
use Rattle.version_slots.specs.declared.view.Line.{Line}
use Rattle.version_slots.specs.Histories.{StartsWith}
use Rattle.version_slots.proofs.Seats.{further}
use Rattle.interlocked.specs.declared.entry.Kept.{Kept}
use Rattle.interlocked.specs.declared.answers.Stamp.{Stamp}
use Rattle.interlocked.specs.Called.{IsDone, IsOutOfMemory, IsRead}
use Rattle.interlocked.specs.Factories.{FoundAt, Looks, RanAt}
use Rattle.interlocked.specs.Known.{IsLater, IsStill, Known, Reads}
use Rattle.interlocked.specs.Retries.{Answers, Installs, OnlyVisits, Tries}
use Rattle.interlocked.specs.Rights.{Made, Shows}
use Rattle.interlocked.proofs.ReadThere.{answers}
use Rattle.interlocked.proofs.Rights.{long, made_since, shows_later}

pub later_since : (p m q : Known) → IsLater p m → IsLater m q → IsLater p q
later_since p m q a b = record {
  table = b.table ∙ a.table;
  number = b.number ∙ a.number;
  seen = further q.view.seen m.view.seen p.view.seen b.seen a.seen;
  kind = b.kind ∙ a.kind;
}

pub still_since : (p m q : Known) → IsStill p m → IsStill m q → IsStill p q
still_since p m q a b = record { later = later_since p m q a.later b.later; mine = b.mine ∙ a.mine; last = b.last ∙ a.last }

-- a call is done, or out of memory, after a look too
module _ (p m q : Known) (still : IsStill p m) where
  pub done_since : (ordinal : ℕ) (call : PlainCall) (reply : Reply) (stamp : Stamp) → IsDone m ordinal call q reply stamp → IsDone p ordinal call q reply stamp
  done_since ordinal call reply stamp h = record {
    later = later_since p m q still.later h.later;
    knows = h.knows;
    calls = (h.calls.0, still_since p m h.calls.0 still h.calls.1, h.calls.2);
    made = made_since p.view m.view ordinal call reply stamp q.view still.later.number still.mine still.later.seen h.made;
    last = h.last;
  }

  pub no_memory_since : IsOutOfMemory m q → IsOutOfMemory p q
  no_memory_since h = record {
    still = still_since p m q still h.still;
    knows = h.knows;
    met = (h.met.0, still_since p m h.met.0 still h.met.1, h.met.2);
  }

-- a look that finds the key answers it, as a call that installs nothing
module _ (p q : Known) (key u : Val) (stamp : Stamp) (looks : Looks p key (Some u) q stamp) where
  answered : (make : Factory) → cell (calls.GetOrAddMade key make Idle) looks.got ≡ reply_only (Value u)
  answered make = ap (λ (b : Bool). where_it_is b (get_or_add_made key make Idle looks.got (value_in key looks.got))) looks.map
      ∙ ap (get_or_add_made key make Idle looks.got) looks.value

  pub done_idle : (ordinal : ℕ) (make : Factory) (r : Known) → r ≡ record q { last = ordinal } → IsDone p ordinal (calls.GetOrAddMade key make Idle) r (Value u) stamp
  done_idle ordinal make r same =
      let call : PlainCall = calls.GetOrAddMade key make Idle in let reads = looks.read.reads in let b : Known = reads.0 in
      subst (λ (s : Known). IsDone p ordinal call s (Value u) stamp) (sym same) record {
        later = record { table = looks.read.still.later.table; number = looks.read.still.later.number; seen = looks.read.still.later.seen; kind = looks.read.still.later.kind };
        knows = looks.read.knows;
        calls = (
          b,
          reads.1,
          subst (λ (x : Bool). MatchBool x (Installs b.view ordinal call (Value u) stamp q.view) (Answers b.view call (Value u) stamp q.view)) (sym reads.2.installed)
              (answers b.view q.view looks.got stamp call (Value u) reads.2 (answered make)),
        );
        made = looks.read.made.answers ordinal call (Value u) (answered make);
        last = refl;
      }

  pub found_idle : (ordinal : ℕ) (r : Known) → r ≡ record q { last = ordinal } → FoundAt key (Value u) r stamp
  found_idle ordinal r same = subst (λ (s : Known). FoundAt key (Value u) s stamp) (sym same) record {
    got = looks.got;
    there = looks.read.made.there;
    value = u;
    present = looks.value;
    reply_is = refl;
  }

-- a look that misses the key stands before the call that follows
module _ (p m q : Known) (key : Val) (stamp : Stamp) (looks : Looks p key None m stamp) where
  placed : (length p.view.seen ≤ stamp.position + 1) × (stamp.position < length m.view.seen)
  placed = let made = looks.read.made.answers 0 calls.Read _ refl in
      (subst (λ (x : Bool). MatchBool x (length p.view.seen ≤ stamp.position) (length p.view.seen ≤ stamp.position + 1)) looks.read.reads.2.installed made.behind, made.within)

  earlier : (b : Bool) (position : ℕ) → MatchBool b (length m.view.seen ≤ position) (length m.view.seen ≤ position + 1) → MatchBool b (stamp.position < position) (stamp.position ≤ position)
  earlier true position h = let a = placed.1 in (let d : stamp.position < position = omega arith in d)
  earlier false position h = let a = placed.1 in (let d : stamp.position ≤ position = omega arith in d)

  pub ran_at : (ordinal : ℕ) (call : PlainCall) (reply : Reply) (done : Stamp) → IsDone m ordinal call q reply done → RanAt p key stamp.position q done
  ran_at ordinal call reply done h = record {
    got = looks.got;
    there = shows_later q.view.seen m.view.seen h.later.seen stamp.position looks.got looks.read.made.there;
    absent = looks.value;
    behind = placed.0;
    before = earlier done.installed done.position h.made.behind;
  }

-- what holds anyway holds of any failure
pub always_err : {A E X : Type 0} (r : Result A E) → X → IfErr r (λ e. X)
always_err (Ok a) x = tt
always_err (Err e) x = x
