-- What a run needs of a script: its cells can be made, and each command passes the parser's own check.
use Rattle.std.specs.Prelude.{◌≡◌, ◌≤◌, List, [], ◌∷◌, length, true, Option, None, Ok}
use Rattle.std.specs.List.{AllByRecursion}
use Rattle.std.specs.Result.{is_ok}
use Rattle.plain_model.specs.declared.limits.TheConstants.{CELLS_LIMIT, PARTS_LIMIT, COMMANDS_LIMIT}
use Rattle.plain_model.specs.declared.commands.Command.{Command}
use Rattle.plain_model.specs.declared.names.Class.{Class}
use Rattle.plain_model.specs.declared.report.CellDecl.{CellDecl}
use Rattle.plain_model.specs.declared.report.Script.{Script}
use Rattle.plain_model.specs.Names.{Bindings}
use Rattle.plain_model.specs.Plain.{first_value, made}
use Rattle.plain_model.specs.Sources.{is_within, are_within}
use Rattle.script_line.specs.Lines.{command_values}
use Rattle.script.specs.Symbols.{Binding, cell_kind, with_bound}
use Rattle.script.specs.Commands.{check}

-- what a command binds, and that its sequences are within 64 bits
pub record IsChecked (cells : List CellDecl) (names : Bindings Class) (c : Command) : Type 0 where
  pub bound : Option Binding
  pub checked : check cells names c ≡ Ok bound
  pub within : are_within (command_values c) ≡ true

-- each command of a part is checked with the names that those before it have bound
abbrev pub AreReady : List CellDecl → Bindings Class → List Command → Type 0
AreReady cells names [] = Unit {0}
AreReady cells names (c ∷ cs) = (is : IsChecked cells names c) × AreReady cells (with_bound names is.bound) cs

-- no cell has the name of one after it
abbrev pub AreDistinct : List CellDecl → Type 0
AreDistinct [] = Unit {0}
AreDistinct (cell ∷ cells) = (cell_kind cells cell.name ≡ None) × AreDistinct cells

-- a cell that begins with its first contents, which can be made
pub record HasFirst (cell : CellDecl) : Type 0 where
  pub first : first_value cell.kind cell.values ≡ made cell.kind cell.values
  pub within : is_within cell.values ≡ true
  pub made : is_ok (made cell.kind cell.values) ≡ true

-- As many cells, parts and commands as there may be.
pub record IsReady (s : Script) : Type 0 where
  pub cells : length s.cells ≤ CELLS_LIMIT
  pub distinct : AreDistinct s.cells
  pub first : AllByRecursion HasFirst s.cells
  pub parts : length s.parts ≤ PARTS_LIMIT
  pub few : AllByRecursion (λ p. length p.commands ≤ COMMANDS_LIMIT) s.parts
  pub ready : AllByRecursion (λ p. AreReady s.cells [] p.commands) s.parts
