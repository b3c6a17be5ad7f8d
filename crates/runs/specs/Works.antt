-- What commands come to, by what the model says of them in whatever reports have the calls.
use Rattle.std.specs.Prelude.{◌≡◌, true, ℕ, ◌+◌, ◌%◌, ◌==◌, ◌<◌, if◌then◌else◌, List, [], ◌∷◌, ◌++◌, length, Some, slice_index_or}
use Rattle.std.specs.List.{AllByRecursion}
use Rattle.plain_model.specs.declared.commands.Command.{Command}
use Rattle.plain_model.specs.declared.commands.Command.TheVariants as commands
use Rattle.plain_model.specs.declared.history.Refusal.TheVariants.{Publish}
use Rattle.plain_model.specs.declared.report.Answer.{Answer}
use Rattle.plain_model.specs.declared.report.Answer.TheVariants.{Refused}
use Rattle.plain_model.specs.Names.{Name}
use Rattle.plain_model.specs.declared.report.CellDecl.{CellDecl}
use Rattle.plain_model.specs.declared.report.CellReport.{CellReport}
use Rattle.plain_model.specs.declared.report.LocalLine.{LocalLine}
use Rattle.plain_model.specs.declared.report.Part.{Part}
use Rattle.plain_model.specs.Locals.{no_locals, gives, local}
use Rattle.plain_model.specs.Work.{Deed, deed_of, deeds_of, work_from, local_lines, calls_at}
use Rattle.locals.specs.Results.{can_run}
use Rattle.runs.specs.declared.work.Worker.{Worker}
use Rattle.runs.specs.Notes.{Note, Connects, notes_at, IsReported}
use Rattle.runs.specs.Places.{decls_in}
use Rattle.runs.specs.Needs.{Leaves}

-- these deeds make these calls, cell by cell
abbrev pub MatchCalls : List CellDecl → List Deed → List Note → Type 0
MatchCalls decls ds ns =
    (k : ℕ) (d : CellDecl) → k < length decls → calls_at (slice_index_or decls k d).name ds ≡ notes_at k ns

-- the line of a collection that is too large to be published
abbrev pub refused_line : ℕ → Name → Name → ℕ → LocalLine
refused_line o cell x n = record { ordinal = o; command = commands.Publish cell x; answer = Refused (Publish n) }

-- A local command was answered as the model says.
pub record AnswersLocally (o : ℕ) (c : Command) (w w' : Worker) : Type 0 where
  pub answer : Answer
  pub built : can_run c w.names ≡ true
  pub is : local c w.names ≡ Some (gives answer w'.names)
  pub lines : w'.lines ≡ w.lines ++ record { ordinal = o; command = c; answer = answer } ∷ []

-- One command was done: it is what the model says, for every worker, in all reports that have its calls.
pub record IsDone {S : Type 0} (makes : S → Note → S → Type 0) (decls : List CellDecl) (o : ℕ) (c : Command) (s : S) (w : Worker) (s' : S) (w' : Worker) : Type 0 where
  pub notes : List Note
  pub deed : Deed
  pub connects : Connects makes s notes s'
  pub lines : w'.lines ≡ w.lines ++ local_lines (deed ∷ [])
  pub calls : MatchCalls decls (deed ∷ []) notes
  pub leaves : Leaves decls c w.names w'.names
  pub done : (n : ℕ) (reports : List CellReport) → decls_in reports ≡ decls → AllByRecursion (IsReported n reports) notes
      → deed_of reports n o c w.names ≡ Some (record { deed = deed; after = w'.names })

-- The commands of a part were done, from this ordinal on.
pub record PartIsDone {S : Type 0} (makes : S → Note → S → Type 0) (decls : List CellDecl) (o : ℕ) (cs : List Command) (s : S) (ls : List LocalLine) (s' : S) (ls' : List LocalLine) : Type 0 where
  pub notes : List Note
  pub deeds : List Deed
  pub connects : Connects makes s notes s'
  pub lines : ls' ≡ ls ++ local_lines deeds
  pub calls : MatchCalls decls deeds notes
  pub done : (n : ℕ) (reports : List CellReport) → decls_in reports ≡ decls → AllByRecursion (IsReported n reports) notes
      → deeds_of reports n o cs no_locals ≡ Some deeds

-- These parts were done, from the ordinal 1 on.
pub record WorkIsDone {S : Type 0} (makes : S → Note → S → Type 0) (decls : List CellDecl) (parts : List (List Command)) (s s' : S) (ls : List LocalLine) : Type 0 where
  pub notes : List Note
  pub deeds : List Deed
  pub connects : Connects makes s notes s'
  pub lines : ls ≡ local_lines deeds
  pub calls : MatchCalls decls deeds notes
  pub done : (n : ℕ) (reports : List CellReport) → decls_in reports ≡ decls → AllByRecursion (IsReported n reports) notes
      → work_from reports n 1 parts ≡ Some deeds

-- the ordinal after parts
abbrev pub ordinal_after : ℕ → List (List Command) → ℕ
ordinal_after o [] = o
ordinal_after o (p ∷ ps) = ordinal_after (o + length p) ps

-- the commands of the part with the number i, if it is one of those of the worker w of n, and else none
abbrev pub commands_for : ℕ → ℕ → ℕ → Part → List Command
commands_for w n i p = if i % n == w % n then p.commands else []
