-- The woven logs are one history of all.
use Rattle.history_merge.proofs.Merged.{woven_merged}
use Rattle.history_merge.proofs.weaving.merge.Goals as goal

pub returns : goal.returns
returns c first entries are = rw c.in_ok-lines.ensures (woven_merged first entries _ are)
