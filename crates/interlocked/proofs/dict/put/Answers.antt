use Rattle.interlocked.proofs.DictCalls.{put}
use Rattle.interlocked.proofs.dict.put.Goals as goal

pub returns : goal.returns
returns c = put c.args.old.now c.in_ok-map.map c.args.key.now c.in_ok-map.ensures.eq c.args.value.now c.args.reply c.in_ok-map.ensures.pairs
