use Rattle.std.proofs.Common.{refl, ◌≡◌, List, map, reverse, ap, ◌∙◌, subst, sym}
use Rattle.plain_model.specs.declared.plain.Plain.{Plain}
use Rattle.version_slots.specs.declared.view.View.{View}
use Rattle.version_slots.specs.declared.tokens.Front.{Front}
use Rattle.interlocked.specs.declared.entry.Kept.{Kept}
use Rattle.interlocked.specs.declared.entry.Entry.{Entry}
use Rattle.interlocked.specs.declared.logged.Logged.{Logged}
use Rattle.interlocked.specs.Entries.{entry, position_of}
use Rattle.interlocked.specs.Tries.{Visits}
use Rattle.version_slots.specs.declared.view.Line.{Line}
use Rattle.interlocked.proofs.OneKind.{kind_shown, kind_later}
use Rattle.interlocked.proofs.Meets.{visits}
use Rattle.interlocked.proofs.ReadThere.{reads_at}
use Rattle.interlocked.proofs.tries.peek_version.Goals as goal

pub returns-in_default-clause-unread : goal.returns-in_default-clause-unread
returns-in_default-clause-unread g c = let p = c.in-Ok.ensures.ok in let v = c.unpin.ensures.view in (
  c.in-Ok.pinned.front,
  _,
  visits c.args.pass.now.place.me.0 c.pin.new.pass.place.me.0 c.unpin.new.pass.place.me.0 c.in-Ok.pinned.front _ p.0 v.0 c.requires.pass.1.1 p.1 p.2 p.3.1 c.pin.ensures.later c.pin.new.pass.placed p.4 v.1,
)

pub returns-clause-ok : goal.returns-clause-ok
returns-clause-ok g c = let L : Type 0 = Logged g.row.C.Denot g.row.X.Denot in let p = c.in-Ok.ensures.ok in let v = c.unpin.ensures.view in
    let plain : L → Kept = λ l. record { value = g.C.Share.plain l.value; entries = reverse (map (λ (e : Entry g.row.X.Denot). entry e.caller e.ordinal (g.X.Change.meaning e.call)) l.entries) } in
    let old : View Kept = c.args.pass.now.place.me.0 in let kept : Kept = plain c.in-Ok.pinned.payload in
    let payload : c.version-version.result.now ≡ c.in-Ok.pinned.payload = c.version-version.ensures in record {
      kept = kept;
      visits = subst (λ (f : Front). Visits old f kept c.unpin.new.pass.place.me.0) (sym (c.front.ensures ∙ c.base-base.ensures))
          (visits old c.pin.new.pass.place.me.0 c.unpin.new.pass.place.me.0 c.in-Ok.pinned.front kept p.0 v.0 c.requires.pass.1.1 p.1 p.2 p.3.1 c.pin.ensures.later c.pin.new.pass.placed p.4 v.1);
      value = c.in-Ok-value.ensures ∙ ap (λ (l : L). g.C.Share.plain l.value) payload;
      position = c.position-position.ensures ∙ ap (λ (l : L). position_of (plain l)) payload;
      installed = refl;
    }

pub returns-clause-made : goal.returns-clause-made
returns-clause-made g c = reads_at c.args.pass.now.place.me.0 c.unpin.new.pass.place.me.0 _ _ (returns-clause-ok g c)

pub returns-clause-value_kind : goal.returns-clause-value_kind
returns-clause-value_kind g c = let L : Type 0 = Logged g.row.C.Denot g.row.X.Denot in let p = c.in-Ok.ensures.ok in let seen : List (Line Kept) = c.pin.new.pass.place.me.0.seen in
    let plain : L → Kept = λ l. record { value = g.C.Share.plain l.value; entries = reverse (map (λ (e : Entry g.row.X.Denot). entry e.caller e.ordinal (g.X.Change.meaning e.call)) l.entries) } in
    let kept : Kept = plain c.in-Ok.pinned.payload in let front : Front = c.in-Ok.pinned.front in
    ap (λ (v : Plain). v.kind) (c.in-Ok-value.ensures ∙ ap (λ (l : L). g.C.Share.plain l.value) c.version-version.ensures)
    ∙ (kind_shown seen front.ticket front.slot kept c.pin.ensures.linked p.3.1 ∙ kind_later seen c.args.pass.now.place.me.0.seen c.pin.ensures.later c.requires.begun)
