use Rattle.interlocked.proofs.ArrayCalls.{exchanged}
use Rattle.interlocked.proofs.array.exchange.Goals as goal

pub returns : goal.returns
returns c = exchanged c.args.old.now c.args.array.now c.in_ok-array.array c.in_ok-reply.reply c.in_ok-array.ensures c.in_ok-reply.ensures
