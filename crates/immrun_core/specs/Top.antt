-- What a call of `top` may come to.
use Rattle.std.specs.Prelude.{◌≡◌, ◌⊎◌, ℕ, ◌+◌, ◌<◌, ◌≤◌, List, [], ◌∷◌, length, Some, Result, Ok, Err, Vec, codes, decimal}
use Rattle.imm_base.specs.Causes.{Rose}
use Rattle.plain_model.specs.declared.report.Script.{Script}
use Rattle.plain_model.specs.declared.report.Report.{Report}
use Rattle.plain_model.specs.Lawful.{Lawful, upgrade}
use Rattle.plain_model.specs.Text.{report_text}
use Rattle.plain_model.specs.Generator.{generated, IsSummary}
use Rattle.generator.specs.declared.scripts.TheConstants.{NUMBER_LIMIT}
use Rattle.script.specs.declared.fault.ParseFault.{ParseFault}
use Rattle.script.specs.Grammar.{read_script}
use Rattle.script.specs.Printing.{canonical_text}
use Rattle.workers.specs.declared.lanes.TheConstants.{WORKERS_LIMIT}
use Rattle.immrun_core.specs.declared.task.Task.{Task}
use Rattle.immrun_core.specs.declared.task.Task.TheVariants.{Run, Check, Gen}
use Rattle.immrun_core.specs.declared.word.Word.{Word}
use Rattle.immrun_core.specs.declared.word.Word.TheVariants.{Short}
use Rattle.immrun_core.specs.declared.status.Status.{Status}
use Rattle.immrun_core.specs.declared.status.Status.TheVariants.{Done, Refused, ReadFault, WriteFault, Memory, TooLong}
use Rattle.immrun_core.specs.Outside.{max_input, SourceEnds, SinkEnds, Unread, ReadsAll, ReadsSome, ReadFails, Unwritten, WritesAll, WriteFails}
use Rattle.immrun_core.specs.Status.{fault_line}

-- the words that ask for a task
abbrev pub words_for : Task → List Word
words_for (Run n) = Short (codes "run") ∷ Short (decimal n) ∷ []
words_for Check = Short (codes "check") ∷ []
words_for (Gen n) = Short (codes "gen") ∷ Short (decimal n) ∷ []

-- a run has some workers, up to a limit, and scripts are generated for the numbers up to another
abbrev pub IsTask : Task → Type 0
IsTask (Run n) = (0 < n) × (n ≤ WORKERS_LIMIT)
IsTask Check = Unit {0}
IsTask (Gen n) = n ≤ NUMBER_LIMIT

-- the words ask for this task
abbrev pub Asks : List Word → Task → Type 0
Asks words task = (words ≡ words_for task) × IsTask task

-- the words ask for some task
abbrev pub IsKnown : List Word → Type 0
IsKnown words = (task : Task) × Asks words task

-- the words ask for a run, with whatever count of workers
abbrev pub IsRun : List Word → Type 0
IsRun words = (n : ℕ) × Asks words (Run n)

-- ---- the script of a task

-- all of the source is this script
pub record IsRead (q : SourceEnds) (script : Script) : Type 0 where
  pub input : List ℕ
  pub read : ReadsAll q input
  pub is_script : read_script input ≡ Ok script

-- all of the source is no script, by this fault
pub record IsRefused (q : SourceEnds) (fault : ParseFault) : Type 0 where
  pub input : List ℕ
  pub read : ReadsAll q input
  pub is_fault : read_script input ≡ Err fault

-- a run and a check read their script; that of a number is generated, and nothing is read
abbrev pub HasScript : Task → SourceEnds → Script → Type 0
HasScript (Run n) q script = IsRead q script
HasScript Check q script = IsRead q script
HasScript (Gen n) q script = (script ≡ generated n) × Unread q

-- what was read with a status that comes before anything is written
abbrev pub ReadsUntil : SourceEnds → Status → Type 0
ReadsUntil q (Refused line code) = IsRefused q (record { line = line; code = code })
ReadsUntil q ReadFault = ReadFails q
ReadsUntil q TooLong = ReadsSome q (λ n. n ≡ max_input + 1)
ReadsUntil q Memory = ReadsSome q (λ n. n ≤ max_input + 1)
ReadsUntil q status = ⊥

-- a generated script is stopped by want of memory alone
abbrev pub Stops : Task → SourceEnds → Status → Type 0
Stops (Run n) q status = ReadsUntil q status
Stops Check q status = ReadsUntil q status
Stops (Gen n) q Memory = Unread q
Stops (Gen n) q status = ⊥

-- ---- what is written of a script

-- the text of a lawful report of it, with so many workers
pub record IsReportOf (script : Script) (n : ℕ) (text : List ℕ) : Type 0 where
  pub report : Report
  pub lawful : Lawful script n report
  pub is_text : text ≡ report_text report

-- A run writes a report, a check the canonical text of the script in the last version, and of a
-- generated script the summary is written.
abbrev pub Gives : Task → Script → List ℕ → Type 0
Gives (Run n) script text = IsReportOf script n text
Gives Check script text = text ≡ canonical_text (upgrade script)
Gives (Gen n) script text = IsSummary n text

-- ---- what each status says

-- the task has a script, and gives this text of it
pub record Output (task : Task) (q : SourceEnds) (text : List ℕ) : Type 0 where
  pub script : Script
  pub has : HasScript task q script
  pub gives : Gives task script text

-- the task came to this text, or stopped with a status in its place
abbrev pub TextEnd : {Z : Type 0} → Task → SourceEnds → Result (Vec ℕ Z) Status → Type 0
TextEnd task q (Ok text) = Output task q text.items
TextEnd task q (Err status) = Stops task q status

-- that text was written
pub record IsDone (task : Task) (q : SourceEnds) (s : SinkEnds) : Type 0 where
  pub text : List ℕ
  pub output : Output task q text
  pub wrote : WritesAll s text

-- the sink failed, and took less than the whole of that text
pub record IsWriteFault (task : Task) (q : SourceEnds) (s : SinkEnds) : Type 0 where
  pub text : List ℕ
  pub output : Output task q text
  pub wrote : WriteFails s text

-- the task stopped with this status, before anything was written
pub record IsStopped (task : Task) (q : SourceEnds) (s : SinkEnds) (status : Status) : Type 0 where
  pub stops : Stops task q status
  pub unwritten : Unwritten s

-- a task that ends with this status did this to the source and the sink
abbrev pub Ended : Task → SourceEnds → SinkEnds → Status → Type 0
Ended task q s Done = IsDone task q s
Ended task q s WriteFault = IsWriteFault task q s
Ended task q s status = IsStopped task q s status

-- nothing was read or written
pub record IsUsage (q : SourceEnds) (s : SinkEnds) : Type 0 where
  pub unread : Unread q
  pub unwritten : Unwritten s

-- ---- which status comes

-- the count of faults did not rise
abbrev pub Calm : ℕ → ℕ → Type 0
Calm before now = Rose before now → ⊥

-- this status, or want of memory
abbrev pub OrMemory : Status → Status → Type 0
OrMemory expected status = (status ≡ expected) ⊎ (status ≡ Memory)

-- What the bytes of a source that does not fail come to: with a script the task is done, unless the
-- sink fails; other bytes are refused; and too many are too many.
pub record ReadingCompletes (q : SourceEnds) (s : SinkEnds) (status : Status) : Type 0 where
  pub accepted : (input : List ℕ) (script : Script) → q.left ≡ Some input → length input ≤ max_input → read_script input ≡ Ok script
      → Calm q.faults q.faults_after → Calm s.faults s.faults_after → OrMemory Done status
  pub refused : (input : List ℕ) (fault : ParseFault) → q.left ≡ Some input → length input ≤ max_input → read_script input ≡ Err fault
      → Calm q.faults q.faults_after → OrMemory (Refused fault.line fault.code) status
  pub too_long : (input : List ℕ) → q.left ≡ Some input → max_input < length input → Calm q.faults q.faults_after → OrMemory TooLong status

-- a generated script needs no bytes
abbrev pub Completes : Task → SourceEnds → SinkEnds → Status → Type 0
Completes (Run n) q s status = ReadingCompletes q s status
Completes Check q s status = ReadingCompletes q s status
Completes (Gen n) q s status = Calm s.faults s.faults_after → OrMemory Done status

-- ---- what the sink of faults is told

-- nothing where all was done; else the line of the status, or less of it where this sink failed
abbrev pub Told : SinkEnds → Status → Type 0
Told f Done = Unwritten f
Told f status = WritesAll f (fault_line status) ⊎ WriteFails f (fault_line status)
