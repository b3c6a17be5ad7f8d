use Rattle.interlocked.proofs.DictCalls.{present, taken}
use Rattle.interlocked.proofs.dict.take.Goals as goal

pub reduced-requires : goal.reduced-requires
reduced-requires c = present c.args.old.now c.args.key.now c.args.value c.requires

pub returns : goal.returns
returns c = taken c.args.old.now c.in_ok-rest.rest c.args.key.now c.in_ok-rest.ensures.eq c.args.value c.in_ok-rest.ensures.pairs
