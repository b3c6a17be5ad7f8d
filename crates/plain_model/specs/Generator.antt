-- The generated scripts, and the summary of what one of them comes to.
use Rattle.std.specs.Prelude.{◌≡◌, ℕ, zero, suc, pos, ◌+◌, ◌*◌, ◌%◌, List, [], ◌∷◌, ◌++◌, length, map, sum_by, count_by, codes, decimal}
use Rattle.std.specs.List.{flat_map}
use Rattle.imm_base.specs.declared.val.Val.{Val}
use Rattle.imm_base.specs.declared.val.Val.TheVariants.{Int}
use Rattle.imm_base.specs.declared.comparers.ValEq.TheVariants as equalities
use Rattle.plain_model.specs.declared.plain.Kind.TheVariants as kinds
use Rattle.plain_model.specs.declared.plain.Values.TheVariants as values
use Rattle.plain_model.specs.declared.plain.Plain.{Plain}
use Rattle.plain_model.specs.declared.commands.PlainOp.TheVariants as ops
use Rattle.plain_model.specs.declared.commands.Transform.TheVariants.{Plus}
use Rattle.plain_model.specs.declared.commands.Command.{Command}
use Rattle.plain_model.specs.declared.commands.Command.TheVariants as commands
use Rattle.plain_model.specs.declared.history.Line.{Line}
use Rattle.plain_model.specs.declared.report.CellDecl.{CellDecl}
use Rattle.plain_model.specs.declared.report.CellReport.{CellReport}
use Rattle.plain_model.specs.declared.report.Part.{Part}
use Rattle.plain_model.specs.declared.report.Script.{Script}
use Rattle.plain_model.specs.declared.report.Version.TheVariants as versions
use Rattle.plain_model.specs.declared.report.Report.{Report}
use Rattle.plain_model.specs.Plain.{count}
use Rattle.plain_model.specs.Frozen.{numbers_from}
use Rattle.plain_model.specs.Lawful.{Lawful}
use Rattle.plain_model.specs.Text.{Word, line, kind_words, values_words}

-- ---- the script of a number

-- a dictionary, a stack, a queue and a list, empty at first
abbrev pub generated_cells : List CellDecl
generated_cells =
    record { name = codes "D"; kind = kinds.Dict equalities.Ordinal; values = values.Pairs [] }
    ∷ record { name = codes "S"; kind = kinds.Stack; values = values.List [] }
    ∷ record { name = codes "Q"; kind = kinds.Queue; values = values.List [] }
    ∷ record { name = codes "L"; kind = kinds.List; values = values.List [] }
    ∷ []

-- the cells are taken in turn: a count at a key, and a value that is put
abbrev pub in_turn : ℕ → Val → Command
in_turn zero v = commands.AddOrUpdate (codes "D") v (Int (pos 1)) (Plus (pos 1))
in_turn (suc zero) v = commands.Push (codes "S") v
in_turn (suc (suc zero)) v = commands.Enqueue (codes "Q") v
in_turn (suc (suc (suc k))) v = commands.Update (codes "L") (ops.Add v)

-- the command j of the part p
abbrev pub generated_command : ℕ → ℕ → ℕ → Command
generated_command n p j = in_turn (j % 4) (Int (pos ((n + 7 * j + 13 * p) % 100)))

abbrev pub generated_part : ℕ → ℕ → Part
generated_part n p = record { commands = map (generated_command n p) (numbers_from 0 4000) }

-- four parts of 4,000 commands
abbrev pub generated : ℕ → Script
generated n = record { version = versions.One; cells = generated_cells; parts = map (generated_part n) (numbers_from 0 4) }

-- ---- its summary

abbrev pub commands_in : Script → ℕ
commands_in script = sum_by (λ part. length part.commands) script.parts

-- how many lines installed
abbrev pub installs : List Line → ℕ
installs lines = count_by (λ l. l.installed) lines

abbrev pub first_word : List Word → Word
first_word [] = codes "none"
first_word (word ∷ words) = word

-- a cell, how many calls installed, its last value's count, and the first of that as it is written
abbrev pub cell_summary : CellDecl → ℕ → Plain → List Word
cell_summary cell n last =
    codes "cell" ∷ cell.name ∷ kind_words cell.kind
    ++ codes "installs" ∷ decimal n ∷ codes "final" ∷ decimal (count last.values) ∷ codes "first" ∷ first_word (values_words last.values) ∷ []

abbrev pub cell_summary_text : CellReport → List ℕ
cell_summary_text c = line (cell_summary c.cell (installs c.lines) c.last)

abbrev pub summary_text : ℕ → Script → Report → List ℕ
summary_text n script r =
    line (codes "gen" ∷ decimal n ∷ [])
    ++ line (codes "commands" ∷ decimal (commands_in script) ∷ [])
    ++ flat_map cell_summary_text r.cells
    ++ line (codes "end" ∷ [])

-- the text is the summary of what one worker comes to by the script of the number
pub record IsSummary (n : ℕ) (text : List ℕ) : Type 0 where
  pub report : Report
  pub lawful : Lawful (generated n) 1 report
  pub same : text ≡ summary_text n (generated n) report
