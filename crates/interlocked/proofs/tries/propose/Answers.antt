use Rattle.std.proofs.Common.{List, subst, sym}
use Rattle.version_slots.specs.declared.view.Line.{Line}
use Rattle.version_slots.specs.Histories.{Linked}
use Rattle.version_slots.proofs.Callers.{shown_follows}
use Rattle.interlocked.specs.declared.entry.Kept.{Kept}
use Rattle.interlocked.specs.Entries.{Extends, position_of}
use Rattle.interlocked.proofs.Proposals.{ends_shown, ends_stand, upto_whole, refused, starts_same, wins_later, wins, loses}
use Rattle.interlocked.proofs.tries.propose.Goals as goal

pub prepare-requires-clause-base : goal.prepare-requires-clause-base
prepare-requires-clause-base g c = ends_stand c.args.pass.now.place.me.0.seen c.args.base.front c.requires.base.0 c.requires.base.1

pub prepare-requires-clause-follows : goal.prepare-requires-clause-follows
prepare-requires-clause-follows g c = let p = c.args.pass.now in let b = c.requires.base in let f = c.args.base.front in
    shown_follows position_of Extends p.place.me.0.seen f.ticket f.slot p.place.me.0.number b.0 _ p.placed (ends_shown p.place.me.0.seen f b.0 b.1) b.2

pub returns-in-Err-Again-clause-linked : goal.returns-in-Err-Again-clause-linked
returns-in-Err-Again-clause-linked g c = subst (λ (h : List (Line Kept)). Linked Extends h) (sym ((refused _ _ _ _ c.in-Err-Again.field-0 c.in-Err-Again.ensures.err).0)) c.requires.linked

pub returns-in-Err-Crowded-clause-linked : goal.returns-in-Err-Crowded-clause-linked
returns-in-Err-Crowded-clause-linked g c = subst (λ (h : List (Line Kept)). Linked Extends h) (sym ((refused _ _ _ _ c.in-Err-Crowded.field-0 c.in-Err-Crowded.ensures.err).0)) c.requires.linked

pub returns-in-Err-Spent-clause-linked : goal.returns-in-Err-Spent-clause-linked
returns-in-Err-Spent-clause-linked g c = subst (λ (h : List (Line Kept)). Linked Extends h) (sym ((refused _ _ _ _ c.in-Err-Spent.field-0 c.in-Err-Spent.ensures.err).0)) c.requires.linked

pub returns-in-Err-Memory-clause-linked : goal.returns-in-Err-Memory-clause-linked
returns-in-Err-Memory-clause-linked g c = subst (λ (h : List (Line Kept)). Linked Extends h) (sym ((refused _ _ _ _ c.in-Err-Memory.field-0 c.in-Err-Memory.ensures.err).0)) c.requires.linked

pub returns-in-Ok-install-clause-ok : goal.returns-in-Ok-install-clause-ok
returns-in-Ok-install-clause-ok g c = let p = c.args.pass.now in let b = c.requires.base in let q = c.in-Ok.ensures.ok in let i = c.in-Ok-install.ensures.ok in let f = c.args.base.front in
    wins p.place.me.0 c.prepare.new.pass.place.me.0 c.install.new.pass.place.me.0 f _ c.in-Ok.proposal.slot c.in-Ok.proposal.ticket q.0 q.1 record { many = q.2; missed = q.3; claimable = q.4 }
    (upto_whole p.place.me.0.seen f b.0 p.placed.1 b.1) c.requires.pass.1.0 q.7
    c.in-Ok.proposal.base q.5 i.2 i.0 i.1 c.in-Ok-install.receipt.front i.3 i.4 i.5

pub returns-in-Err-clause-ok : goal.returns-in-Err-clause-ok
returns-in-Err-clause-ok g c = let p = c.args.pass.now in let b = c.requires.base in let q = c.in-Ok.ensures.ok in let i = c.in-Err.ensures.lost in let f = c.args.base.front in (
  c.front-pinned.ensures,
  loses p.place.me.0 c.prepare.new.pass.place.me.0 c.install.new.pass.place.me.0 f _ c.in-Ok.proposal.slot c.in-Ok.proposal.ticket q.0 q.1 record { many = q.2; missed = q.3; claimable = q.4 }
      (upto_whole p.place.me.0.seen f b.0 p.placed.1 b.1) c.requires.pass.1.0 q.7
      c.in-Ok.proposal.base q.5 i.1 c.in-Err.field-0.found i.3 i.4 i.5 i.6 i.0 _ i.2 i.8 i.9,
)

pub returns-in-Err-Again-clause-later : goal.returns-in-Err-Again-clause-later
returns-in-Err-Again-clause-later g c = starts_same c.args.pass.now.place.me.0 c.prepare.new.pass.place.me.0 (refused _ c.args.pass.now.place.me.0 _ c.prepare.new.pass.place.me.0 c.in-Err-Again.field-0 c.in-Err-Again.ensures.err)

pub returns-in-Err-Crowded-clause-later : goal.returns-in-Err-Crowded-clause-later
returns-in-Err-Crowded-clause-later g c = starts_same c.args.pass.now.place.me.0 c.prepare.new.pass.place.me.0 (refused _ c.args.pass.now.place.me.0 _ c.prepare.new.pass.place.me.0 c.in-Err-Crowded.field-0 c.in-Err-Crowded.ensures.err)

pub returns-in-Err-Spent-clause-later : goal.returns-in-Err-Spent-clause-later
returns-in-Err-Spent-clause-later g c = starts_same c.args.pass.now.place.me.0 c.prepare.new.pass.place.me.0 (refused _ c.args.pass.now.place.me.0 _ c.prepare.new.pass.place.me.0 c.in-Err-Spent.field-0 c.in-Err-Spent.ensures.err)

pub returns-in-Err-Memory-clause-later : goal.returns-in-Err-Memory-clause-later
returns-in-Err-Memory-clause-later g c = starts_same c.args.pass.now.place.me.0 c.prepare.new.pass.place.me.0 (refused _ c.args.pass.now.place.me.0 _ c.prepare.new.pass.place.me.0 c.in-Err-Memory.field-0 c.in-Err-Memory.ensures.err)

pub returns-in-Ok-install-clause-later : goal.returns-in-Ok-install-clause-later
returns-in-Ok-install-clause-later g c = let p = c.args.pass.now in let b = c.requires.base in let q = c.in-Ok.ensures.ok in let i = c.in-Ok-install.ensures.ok in let f = c.args.base.front in
    wins_later _ _ _ _ _ (wins p.place.me.0 c.prepare.new.pass.place.me.0 c.install.new.pass.place.me.0 f _ c.in-Ok.proposal.slot c.in-Ok.proposal.ticket q.0 q.1 record { many = q.2; missed = q.3; claimable = q.4 }
    (upto_whole p.place.me.0.seen f b.0 p.placed.1 b.1) c.requires.pass.1.0 q.7
    c.in-Ok.proposal.base q.5 i.2 i.0 i.1 c.in-Ok-install.receipt.front i.3 i.4 i.5)
