use Rattle.std.proofs.Common.{◌≡◌, ℕ, List, map, reverse, ap, ◌∙◌, subst, sym}
use Rattle.version_slots.specs.declared.view.View.{View}
use Rattle.version_slots.specs.declared.tokens.Front.{Front}
use Rattle.interlocked.specs.declared.entry.Kept.{Kept}
use Rattle.interlocked.specs.declared.entry.Entry.{Entry}
use Rattle.interlocked.specs.declared.logged.Logged.{Logged}
use Rattle.interlocked.specs.Entries.{entry, position_of}
use Rattle.interlocked.specs.Tries.{Visits}
use Rattle.interlocked.specs.Retries.{TurnsTo}
use Rattle.plain_model.specs.declared.plain.Kind.{Kind}
use Rattle.version_slots.specs.declared.view.Line.{Line}
use Rattle.interlocked.specs.Entries.{kind_in}
use Rattle.interlocked.proofs.OneKind.{kind_shown, kind_later}
use Rattle.interlocked.proofs.Meets.{visits}
use Rattle.interlocked.proofs.tries.visit.Goals as goal

pub turn-turn-requires : goal.turn-turn-requires
turn-turn-requires g c = let L : Type 0 = Logged g.row.C.Denot g.row.X.Denot in let p = c.in_ok-pinned.ensures.ok in let seen : List (Line Kept) = c.pin.new.pass.place.me.0.seen in
    let plain : L → Kept = λ l. record { value = g.C.Share.plain l.value; entries = reverse (map (λ (e : Entry g.row.X.Denot). entry e.caller e.ordinal (g.X.Change.meaning e.call)) l.entries) } in
    let kept : Kept = plain c.in_ok-pinned.pinned.payload in let front : Front = c.in_ok-pinned.pinned.front in
    let kind : (plain c.version-version.result.now).value.kind ≡ kind_in c.args.pass.now.place.me.0.seen = ap (λ (l : L). (plain l).value.kind) c.version-version.ensures
    ∙ (kind_shown seen front.ticket front.slot kept c.pin.ensures.linked p.3.1 ∙ kind_later seen c.args.pass.now.place.me.0.seen c.pin.ensures.later c.requires.begun) in
    subst (λ (k : Kind). g.X.Change.suits c.args.call.now k) (sym kind) c.requires.suits

pub returns-clause-ok : goal.returns-clause-ok
returns-clause-ok g c = let L : Type 0 = Logged g.row.C.Denot g.row.X.Denot in let p = c.in_ok-pinned.ensures.ok in let v = c.unpin.ensures.view in
    let plain : L → Kept = λ l. record { value = g.C.Share.plain l.value; entries = reverse (map (λ (e : Entry g.row.X.Denot). entry e.caller e.ordinal (g.X.Change.meaning e.call)) l.entries) } in
    let old : View Kept = c.args.pass.now.place.me.0 in let kept : Kept = plain c.in_ok-pinned.pinned.payload in
    let number : c.number.result ≡ old.number = c.number.ensures ∙ (sym c.pin.new.pass.numbered ∙ ap (λ (u : View Kept). u.number) p.4) in
    let payload : c.version-version.result.now ≡ c.in_ok-pinned.pinned.payload = c.version-version.ensures in (
      kept,
      subst (λ (f : Front). Visits old f kept c.unpin.new.pass.place.me.0) (sym c.base-base.ensures)
          (visits old c.pin.new.pass.place.me.0 c.unpin.new.pass.place.me.0 c.in_ok-pinned.pinned.front kept p.0 v.0 c.requires.pass.1.1 p.1 p.2 p.3.1 c.pin.ensures.later c.pin.new.pass.placed p.4 v.1),
      c.position-position.ensures ∙ ap (λ (l : L). position_of (plain l)) payload,
      subst (λ (x : ℕ × L). TurnsTo plain (plain x.1) x.0 c.args.ordinal (g.X.Change.meaning c.args.call.now) c.turn-turn.result) (λ k. (number k, payload k)) c.turn-turn.ensures,
    )
