-- What commands need, with the names before them.
use Rattle.std.specs.Prelude.{◌≡◌, ◌<◌, List, [], ◌∷◌, length, true, Option, Some, None, slice_get}
use Rattle.std.specs.Result.{is_ok}
use Rattle.plain_model.specs.declared.plain.Kind.{Kind}
use Rattle.plain_model.specs.declared.plain.Plain.{Plain}
use Rattle.plain_model.specs.declared.commands.PlainCall.{PlainCall}
use Rattle.plain_model.specs.declared.commands.Command.{Command}
use Rattle.plain_model.specs.declared.commands.Command.TheVariants as commands
use Rattle.plain_model.specs.declared.report.Answer.{Answer}
use Rattle.plain_model.specs.declared.report.CellDecl.{CellDecl}
use Rattle.plain_model.specs.Names.{Name}
use Rattle.plain_model.specs.Plain.{first_value, made}
use Rattle.plain_model.specs.Sources.{is_within}
use Rattle.plain_model.specs.Work.{call_of}
use Rattle.cell_calls.specs.Calls.{PlainSuits}
use Rattle.plain_model.specs.Locals.{Locals, Given, gives, bind, collection, collection_at, local}
use Rattle.locals.specs.Results.{can_run}
use Rattle.runs.specs.Calls.{HasKeys}
use Rattle.runs.specs.Places.{cell_place, kinds_of}

-- the name is bound to a collection of the cell's kind
pub record CanPublish (decls : List CellDecl) (cell x : Name) (s : Locals) : Type 0 where
  pub value : Plain
  pub is : collection_at s x ≡ Some value
  pub kind : slice_get (kinds_of decls) (cell_place decls cell) ≡ Some value.kind

-- the command is one of those that are built, and the model gives something
pub record CanAnswer (c : Command) (s : Locals) : Type 0 where
  pub built : can_run c s ≡ true
  pub given : Given
  pub is : local c s ≡ Some given

-- the cell is declared, and its sequences stay within 64 bits
pub record CanCall (decls : List CellDecl) (cell : Name) (call : PlainCall) : Type 0 where
  pub kind : Kind
  pub at : slice_get (kinds_of decls) (cell_place decls cell) ≡ Some kind
  pub suits : PlainSuits call

-- a command that makes this call, or a local one
abbrev pub CanCallOrAnswer : List CellDecl → Option (Name × PlainCall) → Command → Locals → Type 0
CanCallOrAnswer decls (Some (cell, call)) c s = CanCall decls cell call
CanCallOrAnswer decls None c s = CanAnswer c s

abbrev pub CanDo : List CellDecl → Command → Locals → Type 0
CanDo decls (commands.Read cell x) s = cell_place decls cell < length decls
CanDo decls (commands.Publish cell x) s = CanPublish decls cell x s
CanDo decls (commands.GetOrAddMade cell k make) s = HasKeys (kinds_of decls) (cell_place decls cell)
CanDo decls c s = CanCallOrAnswer decls (call_of c) c s

-- ---- names after a command

-- a name is bound to a collection of the cell's kind
pub record BindsRead (decls : List CellDecl) (cell x : Name) (s after : Locals) : Type 0 where
  pub value : Plain
  pub kind : slice_get (kinds_of decls) (cell_place decls cell) ≡ Some value.kind
  pub binds : after ≡ bind x (collection value) s

pub record IsAnswered (c : Command) (s after : Locals) : Type 0 where
  pub answer : Answer
  pub is : local c s ≡ Some (gives answer after)

-- a call binds nothing
abbrev pub CallsOrIsAnswered : Option (Name × PlainCall) → Command → Locals → Locals → Type 0
CallsOrIsAnswered (Some call) c s after = after ≡ s
CallsOrIsAnswered None c s after = IsAnswered c s after

abbrev pub Leaves : List CellDecl → Command → Locals → Locals → Type 0
Leaves decls (commands.Read cell x) s after = BindsRead decls cell x s after
Leaves decls (commands.Publish cell x) s after = after ≡ s
Leaves decls (commands.GetOrAddMade cell k make) s after = after ≡ s
Leaves decls c s after = CallsOrIsAnswered (call_of c) c s after

-- each command can be done, whatever the names that those before it leave
abbrev pub CanDoAll : List CellDecl → List Command → Locals → Type 0
CanDoAll decls [] s = Unit {0}
CanDoAll decls (c ∷ cs) s = CanDo decls c s × ((after : Locals) → Leaves decls c s after → CanDoAll decls cs after)

-- ---- cells

-- a cell that begins with its first contents, which can be made
pub record CanBegin (cell : CellDecl) : Type 0 where
  pub first : first_value cell.kind cell.values ≡ made cell.kind cell.values
  pub within : is_within cell.values ≡ true
  pub made : is_ok (made cell.kind cell.values) ≡ true
