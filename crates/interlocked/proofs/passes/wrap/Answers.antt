use Rattle.std.proofs.Common.{◌≡◌, rules, refl, [], sym, ◌∙◌}
use Rattle.std.proofs.lemmas.List.{map-id}
use Rattle.interlocked.specs.Known.{IsReady, Known, uncalled}
use Rattle.interlocked.proofs.Moved.{moved, all_moved, room_left, popped}
use Rattle.interlocked.proofs.passes.wrap.Goals as goal

pub loop-pass-preserved : goal.loop-pass-preserved
loop-pass-preserved g c = let inv = c.loop-pass.invariant in let taken = c.in-Some.ensures.items in let put = c.push_reserved.ensures.items in record {
  room = room_left c.loop-pass.passes.items c.pop.new.self.items c.in-Some.pass c.loop-pass.all.items c.push_reserved.new.self.items _ _ _ taken put c.push_reserved.ensures.capacity inv.room;
  new = (popped c.loop-pass.passes.items c.pop.new.self.items c.in-Some.pass (λ p. IsReady p.place.me.0 0) taken inv.new).0;
  same = moved c.args.passes.items c.loop-pass.passes.items c.pop.new.self.items c.in-Some.pass c.loop-pass.all.items c.push_reserved.new.self.items _ (λ p. uncalled p.place.table_id p.place.me.0) (λ (k : Known). k) inv.same taken put refl;
}

pub returns : goal.returns
returns g c = let inv = c.loop-pass.invariant in let none : c.loop-pass.passes.items ≡ [] = search rules in
    sym (map-id c.reverse.new.self.items) ∙ all_moved c.args.passes.items c.loop-pass.passes.items c.loop-pass.all.items c.reverse.new.self.items (λ p. uncalled p.place.table_id p.place.me.0) (λ (k : Known). k) inv.same none c.reverse.ensures.items
