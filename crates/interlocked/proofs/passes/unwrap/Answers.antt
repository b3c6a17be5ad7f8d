use Rattle.std.proofs.Common.{◌≡◌, rules, [], ap}
use Rattle.version_slots.specs.Cells.{IsIdle}
use Rattle.interlocked.specs.Known.{Known, pair}
use Rattle.interlocked.proofs.Moved.{moved, all_moved, room_left, pushed, turned}
use Rattle.interlocked.proofs.passes.unwrap.Goals as goal

pub loop-pass-2-preserved : goal.loop-pass-2-preserved
loop-pass-2-preserved g c = let inv = c.loop-pass-2.invariant in let taken = c.in-Some-pop.ensures.items in let put = c.push_reserved.ensures.items in let own = c.pass in record {
  room = room_left c.loop-pass-2.passes.items c.pop-in-loop-pass-2.new.self.items c.in-Some-pop.pass c.loop-pass-2.all.items c.push_reserved.new.self.items _ _ _ taken put c.push_reserved.ensures.capacity inv.room;
  idle = pushed c.loop-pass-2.all.items c.push_reserved.new.self.items own.inside.pass (λ p. IsIdle p.place.me.0) put inv.idle own.invariant.idle;
  same = moved c.args.passes.items c.loop-pass-2.passes.items c.pop-in-loop-pass-2.new.self.items c.in-Some-pop.pass c.loop-pass-2.all.items c.push_reserved.new.self.items own.inside.pass
      (λ (k : Known). pair k.table k.view) (λ p. pair p.place.table_id p.place.me.0) inv.same taken put (ap (λ (k : Known). pair k.table k.view) own.view_is);
}

pub returns-clause-same : goal.returns-clause-same
returns-clause-same g c = let inv = c.loop-pass-2.invariant in let none : c.loop-pass-2.passes.items ≡ [] = search rules in
    all_moved c.args.passes.items c.loop-pass-2.passes.items c.loop-pass-2.all.items c.reverse.new.self.items (λ (k : Known). pair k.table k.view) (λ p. pair p.place.table_id p.place.me.0) inv.same none c.reverse.ensures.items

pub returns-clause-idle : goal.returns-clause-idle
returns-clause-idle g c = turned c.loop-pass-2.all.items c.reverse.new.self.items (λ p. IsIdle p.place.me.0) c.reverse.ensures.items c.loop-pass-2.invariant.idle
