use Rattle.std.proofs.Common.{arith}
use Rattle.version_slots_tests.proofs.tests.finish.Goals as goal

pub close-requires-clause-all : goal.close-requires-clause-all
close-requires-clause-all g c number pos small = let count = c.requires.all.0 in c.requires.all.1 number pos (omega arith)
