use Rattle.interlocked.proofs.OneKind.{begun_later, kind_later}
use Rattle.interlocked.proofs.tries.peek_once.Goals as goal

pub returns-clause-begun : goal.returns-clause-begun
returns-clause-begun g c = begun_later c.peek_version.new.pass.place.me.0.seen c.args.pass.now.place.me.0.seen c.peek_version.ensures.later.0 c.requires.begun

pub returns-clause-kind : goal.returns-clause-kind
returns-clause-kind g c = kind_later c.peek_version.new.pass.place.me.0.seen c.args.pass.now.place.me.0.seen c.peek_version.ensures.later.0 c.requires.begun
