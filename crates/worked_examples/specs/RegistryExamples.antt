-- A registry: four equal parts, done by one worker, count at each of forty names, and look at what has become of them.
use Rattle.std.specs.Prelude.{◌≡◌, pos, List, [], ◌∷◌, ◌++◌, map, count_by, filter_map, codes, Option, Some, None}
use Rattle.std.specs.List.{flat_map}
use Rattle.imm_base.specs.declared.val.Val.TheVariants.{Int}
use Rattle.imm_base.specs.declared.comparers.ValEq.TheVariants as equalities
use Rattle.plain_model.specs.declared.plain.Kind.TheVariants as kinds
use Rattle.plain_model.specs.declared.plain.Values.TheVariants as values
use Rattle.plain_model.specs.declared.commands.Query.TheVariants as queries
use Rattle.plain_model.specs.declared.commands.Transform.TheVariants.{Plus}
use Rattle.plain_model.specs.declared.commands.Command.{Command}
use Rattle.plain_model.specs.declared.commands.Command.TheVariants as commands
use Rattle.plain_model.specs.declared.report.Answer.{Answer}
use Rattle.plain_model.specs.declared.report.Answer.TheVariants as answers
use Rattle.plain_model.specs.declared.report.CellDecl.{CellDecl}
use Rattle.plain_model.specs.declared.report.Report.{Report}
use Rattle.plain_model.specs.declared.report.Script.{Script}
use Rattle.plain_model.specs.declared.report.Version.TheVariants as versions
use Rattle.plain_model.specs.Plain.{pairs}
use Rattle.plain_model.specs.Frozen.{numbers_from}
use Rattle.plain_model.specs.Lawful.{Lawful}
use Rattle.worked_examples.specs.LawfulExamples.{service}

abbrev pub registry_cell : CellDecl
registry_cell = record { name = codes "R"; kind = kinds.Dict equalities.NoCase; values = values.Pairs [] }

abbrev pub registry_part : List Command
registry_part =
    flat_map (λ i. commands.GetOrAdd (codes "R") (service i) (Int (pos 0)) ∷ commands.AddOrUpdate (codes "R") (service i) (Int (pos 1)) (Plus (pos 1)) ∷ []) (numbers_from 1 40)
    ++ commands.Read (codes "R") (codes "s")
    ∷ commands.FrozenMap (codes "f") equalities.NoCase (values.Pairs []) (Some (codes "s"))
    ∷ commands.Ask (codes "f") queries.Count None
    ∷ commands.Walk (codes "w") (codes "s")
    ∷ commands.Next (codes "w")
    ∷ commands.Dispose (codes "w")
    ∷ []

abbrev pub registry_script : Script
registry_script = record { version = versions.One; cells = registry_cell ∷ []; parts = map (λ p. record { commands = registry_part }) (numbers_from 1 4) }

-- what a question is answered
abbrev pub asked_answer : Command → Answer → Option Answer
asked_answer (commands.Ask name query from) answer = Some answer
asked_answer _ answer = None

-- a report of one worker: 200 calls install, forty names have the count 4, and each part finds forty
pub record RegistryExample : Type 0 where
  pub report : Report
  pub lawful : Lawful registry_script 1 report
  pub installs : count_by (λ l. l.installed) (flat_map (λ c. c.lines) report.cells) ≡ 200
  pub finals : map (λ c. pairs c.last.values) report.cells ≡ map (λ i. (service i, Int (pos 4))) (numbers_from 1 40) ∷ []
  pub asked : filter_map (λ l. asked_answer l.command l.answer) (flat_map (λ lines. lines) report.locals) ≡ map (λ p. answers.Count 40) (numbers_from 1 4)
