use Rattle.std.proofs.Common.{[], ◌∷◌, ◌++◌, map, reverse, ap, ◌∙◌, subst}
use Rattle.imm_base.specs.declared.val.Edit.{Edit}
use Rattle.interlocked.specs.declared.entry.Entry.{Entry}
use Rattle.interlocked.specs.Entries.{entry}
use Rattle.interlocked.specs.Outcomes.{KeepsKind}
use Rattle.interlocked.proofs.Entries.{pushed}
use Rattle.interlocked.proofs.Turns.{installs_new}
use Rattle.interlocked.proofs.logged.Logged.turn.Goals as goal

pub returns : goal.returns
returns g c = let f = λ (e : Entry g.row.X.Denot). entry e.caller e.ordinal (g.X.Change.meaning e.call) in let old = c.args.self.now in (
  g.C.Share.plain c.in-New.value,
  installs_new g.C.Share.plain _ _ c.in-New.value _ c.in-Ok.ensures.edit c.in-New.is c.in-Ok.ensures.reply,
  (λ k. record {
    value = g.C.Share.plain c.in-New.value;
    entries = (pushed f old.entries c.in-Ok-push.entries _ c.in-Ok-push.ensures
        ∙ ap (λ x. reverse (map f old.entries) ++ entry c.args.number c.args.ordinal (g.X.Change.meaning x) ∷ []) c.in-Ok-dup.ensures) k;
  }),
  subst (λ (e : Edit g.row.C.Denot). KeepsKind g.C.Share.plain (g.C.Share.plain old.value).kind e) c.in-New.is c.in-Ok.ensures.kind,
)
