use Rattle.std.proofs.Common.{arith}
use Rattle.version_slots_tests.proofs.tests.a_refused_share_gives_the_payload_back.Goals as goal

pub propose-requires-2-clause-base : goal.propose-requires-2-clause-base
propose-requires-2-clause-base g c = let base = c.base_of-position-2.ensures.base in (base.0, base.1, let position = base.2 in omega arith)
