-- What the end of the one task that words ask for says of all tasks.
use Rattle.std.proofs.Common.{◌≡◌, ◌↔◌, refl, subst}
use Rattle.std.specs.Prelude.{ℕ, List}
use Rattle.immrun_core.specs.declared.status.Status.{Status}
use Rattle.immrun_core.specs.declared.status.Status.TheVariants.{Usage}
use Rattle.immrun_core.specs.declared.task.Task.{Task}
use Rattle.immrun_core.specs.declared.task.Task.TheVariants.{Run, Check, Gen}
use Rattle.immrun_core.specs.declared.word.Word.{Word}
use Rattle.immrun_core.specs.Outside.{SourceEnds, SinkEnds}
use Rattle.immrun_core.specs.Top.{Asks, IsKnown, IsRun, Ended, IsUsage, Completes}
use Rattle.immrun_core.proofs.Tasks.{one_task, no_usage}
use Rattle.immrun_core.proofs.Complete.{is_complete}

-- what a call with these words says of its source and its sink
pub record IsEnd (words : List Word) (q : SourceEnds) (s : SinkEnds) (status : Status) : Type 0 where
  pub ended : (task : Task) → Asks words task → Ended task q s status
  pub usage : (status ≡ Usage) ↔ ¬ IsKnown words
  pub unread : status ≡ Usage → IsUsage q s
  pub complete : (task : Task) → Asks words task → Completes task q s status

-- the words ask for a task that ended so
pub task_end : (words : List Word) (t : Task) (q : SourceEnds) (s : SinkEnds) (status : Status) → Asks words t → Ended t q s status → IsEnd words q s status
task_end words t q s status asked end = record {
  ended = λ task asks. ended task asks;
  usage = (λ e known. other e, λ unknown. absurd (unknown (t, asked)));
  unread = λ e. absurd (other e);
  complete = λ task asks. is_complete task q s status (ended task asks);
}
  where
    ended : (task : Task) → Asks words task → Ended task q s status
    ended task asks = subst (λ x. Ended x q s status) (one_task words t task asked asks) end

    other : status ≡ Usage → ⊥
    other e = no_usage t q s (subst (Ended t q s) e end)

-- the words ask for none, and nothing was done
pub usage_end : (words : List Word) (q : SourceEnds) (s : SinkEnds) → ¬ IsKnown words → IsUsage q s → IsEnd words q s Usage
usage_end words q s unknown none = record {
  ended = λ task asks. absurd (unknown (task, asks));
  usage = (λ e. unknown, λ n. refl);
  unread = λ e. none;
  complete = λ task asks. absurd (unknown (task, asks));
}

-- words of another task are not those of a run
pub check_only : (words : List Word) → Asks words Check → ¬ IsRun words
check_only words asked (n, asks) = let e : Check ≡ Run n = one_task words Check (Run n) asked asks in cc

pub generated_only : (words : List Word) (k : ℕ) → Asks words (Gen k) → ¬ IsRun words
generated_only words k asked (n, asks) = let e : Gen k ≡ Run n = one_task words (Gen k) (Run n) asked asks in cc

pub unknown_only : (words : List Word) → ¬ IsKnown words → ¬ IsRun words
unknown_only words unknown (n, asks) = unknown (Run n, asks)
