use Rattle.version_slots.proofs.Gates.{claimable}
use Rattle.version_slots.proofs.words.some_gate_is_claimable.Goals as goal

pub returns : goal.returns
returns g c passes opening s r = claimable g.P.Payload.plain g.P.Payload.follows passes opening s r
