use Rattle.std.proofs.Common.{◌≡◌, ℕ, ◌+◌, subst, sym, ap, ◌∙◌, MatchResult, map, reverse}
use Rattle.version_slots.specs.declared.view.View.{View}
use Rattle.version_slots.specs.declared.tokens.Front.{Front}
use Rattle.plain_model.specs.declared.commands.PlainCall.{PlainCall}
use Rattle.interlocked.specs.Entries.{entry}
use Rattle.interlocked.specs.Retries.{TurnsTo, Refuses, grown}
use Rattle.interlocked.proofs.Ordinals.{visit_ends, may_install, kept_below, below_won, below_same, below_next}
use Rattle.interlocked.proofs.Proposals.{refuses_mine}
use Rattle.interlocked.proofs.Rights.{made_of}
use Rattle.interlocked.specs.Tries.{Visits, Wins}
use Rattle.interlocked.specs.declared.entry.Kept.{Kept}
use Rattle.interlocked.specs.declared.entry.Entry.{Entry}
use Rattle.interlocked.proofs.tries.try_call.Goals as goal

pub propose-requires-clause-base : goal.propose-requires-clause-base
propose-requires-clause-base g c = let o = c.in-Ok.ensures.ok in let p = c.visit.new.pass in
    let turn = subst (TurnsTo _ o.0 c.args.pass.now.place.me.0.number c.args.ordinal (g.X.Change.meaning c.args.call.now)) c.in-Grows.is o.3 in (
      o.0,
      visit_ends _ _ _ _ o.1,
      may_install c.args.pass.now.place.me.0 p.place.me.0 _ o.0 _ c.args.ordinal _ turn.0 c.in-Grows.reply o.1 c.requires.above c.visit.ensures.linked p.placed p.own turn.1 turn.2 turn.3,
    )

pub returns-in-Ok-2-clause-below : goal.returns-in-Ok-2-clause-below
returns-in-Ok-2-clause-below g c = let o = c.in-Ok.ensures.ok in let p = c.visit.new.pass in let old : View Kept = c.args.pass.now.place.me.0 in let mid : View Kept = p.place.me.0 in let new : View Kept = c.propose.new.pass.place.me.0 in
    let base : Front = c.in-Ok.visited.0.front in let front : Front = c.in-Ok-2.front in let call : PlainCall = g.X.Change.meaning c.args.call.now in
    let turn = subst (TurnsTo _ o.0 old.number c.args.ordinal call) c.in-Grows.is o.3 in
    let next : Kept = record { value = g.C.Share.plain c.in-Grows.next.value; entries = reverse (map (λ (e : Entry g.row.X.Denot). entry e.caller e.ordinal (g.X.Change.meaning e.call)) c.in-Grows.next.entries) } in
    let won = subst (λ r. MatchResult r (λ (f : Front). Wins mid base next f new) (Refuses mid base new)) c.in-Ok-2.is c.in_ok-front.ensures.ok in
    let number : old.number ≡ mid.number = sym c.visit.ensures.later.1 in
    let below = kept_below old mid base o.0 c.args.ordinal o.1 c.requires.above c.visit.ensures.linked p.placed p.own in
    below_won mid base o.0 front new c.args.ordinal call turn.0
    (subst (λ (k : Kept). Wins mid base k front new) (turn.2 ∙ ap (λ (n : ℕ). grown o.0 n c.args.ordinal call turn.0) number) won) below.0 below.1

pub returns-in-Err-2-clause-below : goal.returns-in-Err-2-clause-below
returns-in-Err-2-clause-below g c = let o = c.in-Ok.ensures.ok in let p = c.visit.new.pass in let old : View Kept = c.args.pass.now.place.me.0 in let mid : View Kept = p.place.me.0 in let new : View Kept = c.propose.new.pass.place.me.0 in
    let base : Front = c.in-Ok.visited.0.front in
    let next : Kept = record { value = g.C.Share.plain c.in-Grows.next.value; entries = reverse (map (λ (e : Entry g.row.X.Denot). entry e.caller e.ordinal (g.X.Change.meaning e.call)) c.in-Grows.next.entries) } in
    let lost = subst (λ r. MatchResult r (λ (f : Front). Wins mid base next f new) (Refuses mid base new)) c.in-Err-2.is c.in_ok-front.ensures.ok in
    let same = refuses_mine mid base new c.in-Err-2.retry lost in
    let below = kept_below old mid base o.0 c.args.ordinal o.1 c.requires.above c.visit.ensures.linked p.placed p.own in
    below_next new c.args.ordinal (below_same mid new c.args.ordinal same.0 same.1 below.0)

pub returns-in-Stays-clause-made : goal.returns-in-Stays-clause-made
returns-in-Stays-clause-made g c = let o = c.in-Ok.ensures.ok in let old : View Kept = c.args.pass.now.place.me.0 in let call : PlainCall = g.X.Change.meaning c.args.call.now in
    let turn = subst (TurnsTo _ o.0 old.number c.args.ordinal call) c.in-Stays.is o.3 in
    made_of old c.args.ordinal call c.in-Stays.reply _ c.visit.new.pass.place.me.0 record {
      kept = o.0;
      visits = subst (λ (f : Front). Visits old f o.0 c.visit.new.pass.place.me.0) (sym c.front.ensures) o.1;
      outcome = turn;
      position = o.2;
    }

pub returns-in-Ok-2-clause-made : goal.returns-in-Ok-2-clause-made
returns-in-Ok-2-clause-made g c = let o = c.in-Ok.ensures.ok in let old : View Kept = c.args.pass.now.place.me.0 in let mid : View Kept = c.visit.new.pass.place.me.0 in let new : View Kept = c.propose.new.pass.place.me.0 in
    let base : Front = c.in-Ok.visited.0.front in let front : Front = c.in-Ok-2.front in let call : PlainCall = g.X.Change.meaning c.args.call.now in
    let turn = subst (TurnsTo _ o.0 old.number c.args.ordinal call) c.in-Grows.is o.3 in
    let next : Kept = record { value = g.C.Share.plain c.in-Grows.next.value; entries = reverse (map (λ (e : Entry g.row.X.Denot). entry e.caller e.ordinal (g.X.Change.meaning e.call)) c.in-Grows.next.entries) } in
    let won = subst (λ r. MatchResult r (λ (f : Front). Wins mid base next f new) (Refuses mid base new)) c.in-Ok-2.is c.in_ok-front.ensures.ok in
    made_of old c.args.ordinal call c.in-Grows.reply _ new record {
      base = base;
      kept = o.0;
      value = turn.0;
      between = mid;
      visits = o.1;
      outcome = turn.1;
      wins = subst (λ (k : Kept). Wins mid base k front new) turn.2 won;
      position = ap (λ (n : ℕ). n + 1) o.2;
    }
