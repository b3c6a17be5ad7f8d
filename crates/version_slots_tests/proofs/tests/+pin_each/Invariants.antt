use Rattle.version_slots_tests.proofs.tests.+pin_each.Given as goal

abbrev pub decreases-pin_each : goal.decreases-pin_each
decreases-pin_each g l = l.count
