use Rattle.worked_examples.proofs.ExamplesHold.{lists_hold, sets_hold, maps_hold, builders_hold, frozen_hold, walks_hold, limits_hold}
use Rattle.worked_examples.proofs.LawfulExamples.{lawful_hold, reports_hold}
use Rattle.worked_examples.proofs.RegistryHolds.{registry_holds}
use Rattle.worked_examples.proofs.examples_hold.Goals as goal
use Rattle.worked_examples.proofs.GeneratedReport.{generated_report}
use Rattle.worked_examples.proofs.GeneratorHolds.{holds_of_0, holds_of_7}

pub returns : goal.returns
returns c = record {
  lists = lists_hold;
  sets = sets_hold;
  maps = maps_hold;
  builders = builders_hold;
  frozen = frozen_hold;
  walks = walks_hold;
  reports = reports_hold;
  lawful = lawful_hold;
  limits = limits_hold;
  registry = registry_holds;
  generated = record { reports = generated_report; of_0 = holds_of_0; of_7 = holds_of_7 };
}
