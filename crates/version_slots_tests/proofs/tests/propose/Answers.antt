use Rattle.version_slots.proofs.Callers.{shown_follows}
use Rattle.version_slots_tests.proofs.tests.propose.Goals as goal

pub prepare-requires-clause-follows : goal.prepare-requires-clause-follows
prepare-requires-clause-follows g c = let b = c.requires.base in let p = c.args.pass.now in
    shown_follows g.P.Payload.position_of g.P.Payload.follows p.place.me.0.seen c.args.base.front.ticket c.args.base.front.slot p.place.me.0.number b.0 _ p.placed b.1 b.2
