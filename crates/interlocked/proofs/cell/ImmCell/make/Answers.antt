use Rattle.std.proofs.Common.{arith, List, [], ◌∙◌, map, reverse, ap}
use Rattle.interlocked.specs.declared.entry.Kept.{Kept}
use Rattle.interlocked.specs.declared.entry.Entry.{Entry}
use Rattle.interlocked.specs.Entries.{entry}
use Rattle.interlocked.proofs.News.{all_new, new_count, new_are}
use Rattle.interlocked.proofs.cell.ImmCell.make.Goals as goal

pub wrap-passes-requires-clause-new : goal.wrap-passes-requires-clause-new
wrap-passes-requires-clause-new g c = all_new c.in-Ok.made.1.items c.args.callers _ (λ p. p.place.me.0) c.in-Ok.ensures.passes

pub wrap-passes-requires-clause-room : goal.wrap-passes-requires-clause-room
wrap-passes-requires-clause-room g c = let many = new_count c.in-Ok.made.1.items c.args.callers _ (λ p. p.place.me.0) c.in-Ok.ensures.passes in (c.in_ok-room.ensures.items, omega (arith, many, c.in_ok-room.ensures.capacity))

pub returns-clause-passes : goal.returns-clause-passes
returns-clause-passes g c = let first : Kept = record { value = g.C.Share.plain c.args.first; entries = [] } in
    let plain : List (Entry g.row.X.Denot) → Kept = λ es. record { value = g.C.Share.plain c.args.first; entries = reverse (map (λ (e : Entry g.row.X.Denot). entry e.caller e.ordinal (g.X.Change.meaning e.call)) es) } in
    c.wrap-passes.ensures ∙ new_are c.in-Ok.made.1.items c.args.callers _ first (λ p. p.place.table_id) (λ p. p.place.me.0) _ (ap plain c.new.ensures) c.in-Ok.ensures.passes c.in-Ok.ensures.table
