use Rattle.interlocked.proofs.OneKind.{begun_later, kind_later}
use Rattle.interlocked.proofs.tries.try_once.Goals as goal

pub returns-clause-begun : goal.returns-clause-begun
returns-clause-begun g c = begun_later c.try_call.new.pass.place.me.0.seen c.args.pass.now.place.me.0.seen c.try_call.ensures.later.0 c.requires.begun

pub returns-clause-kind : goal.returns-clause-kind
returns-clause-kind g c = kind_later c.try_call.new.pass.place.me.0.seen c.args.pass.now.place.me.0.seen c.try_call.ensures.later.0 c.requires.begun
