-- The report of a script that one worker does alone, command by command.
use Rattle.std.specs.Prelude.{ℕ, ◌+◌, List, [], ◌∷◌, ◌++◌, length, map, find, fold, Option, Some, None, is_some, option_map, Result, Ok, Err, if◌then◌else◌, nat_lt, bytes_eq}
use Rattle.imm_base.specs.declared.val.Val.{Val}
use Rattle.plain_model.specs.declared.plain.Values.{Values}
use Rattle.plain_model.specs.declared.plain.Values.TheVariants as values
use Rattle.plain_model.specs.declared.plain.Plain.{Plain}
use Rattle.plain_model.specs.declared.commands.Probe.{Probe}
use Rattle.plain_model.specs.declared.commands.Probe.TheVariants.{Idle, Ran}
use Rattle.plain_model.specs.declared.commands.PlainCall.{PlainCall}
use Rattle.plain_model.specs.declared.commands.PlainCall.TheVariants as calls
use Rattle.plain_model.specs.declared.commands.Command.{Command}
use Rattle.plain_model.specs.declared.commands.Command.TheVariants as commands
use Rattle.plain_model.specs.declared.history.Refusal.{Refusal}
use Rattle.plain_model.specs.declared.history.Refusal.TheVariants.{Publish}
use Rattle.plain_model.specs.declared.report.Answer.{Answer}
use Rattle.plain_model.specs.declared.report.Answer.TheVariants.{Refused}
use Rattle.plain_model.specs.declared.report.CellDecl.{CellDecl}
use Rattle.plain_model.specs.declared.report.CellReport.{CellReport}
use Rattle.plain_model.specs.declared.report.LocalLine.{LocalLine}
use Rattle.plain_model.specs.declared.report.Part.{Part}
use Rattle.plain_model.specs.declared.report.Report.{Report}
use Rattle.plain_model.specs.declared.report.Script.{Script}
use Rattle.plain_model.specs.Plain.{count, first_value, nothing}
use Rattle.plain_model.specs.Cell.{cell, after, value_in}
use Rattle.plain_model.specs.Locals.{Locals, no_locals, bind, collection, collection_at, Given, local}
use Rattle.plain_model.specs.Names.{Name}
use Rattle.plain_model.specs.Work.{call_of, value_read, array_at, wanted_at}
use Rattle.plain_model.specs.declared.limits.TheConstants.{PUBLISH_LIMIT}

-- a cell with its lines so far, and the position of the last of them
pub record Running : Type 0 where
  pub report : CellReport
  pub position : ℕ

-- the cells, the worker's local lines and its names, and the ordinal of the next command
pub record Doing : Type 0 where
  pub cells : List Running
  pub lines : List LocalLine
  pub names : Locals
  pub ordinal : ℕ

abbrev pub opened_with : CellDecl → Result Plain Refusal → Running
opened_with c (Ok p) = record { report = record { cell = c; first = p; lines = []; last = p }; position = 0 }
opened_with c (Err r) = record { report = record { cell = c; first = nothing c.kind; lines = []; last = nothing c.kind }; position = 0 }

abbrev pub opened : CellDecl → Running
opened c = opened_with c (first_value c.kind c.values)

-- the cell after a call with this ordinal
abbrev pub called_at : ℕ → ℕ → PlainCall → Running → Running
called_at position o call c = record {
  report = record c.report {
    lines = c.report.lines ++ record { position = position; caller = 1; ordinal = o; call = call; reply = (cell call c.report.last).reply; installed = is_some (cell call c.report.last).installs } ∷ [];
    last = after call c.report.last;
  };
  position = position;
}

abbrev pub called : ℕ → PlainCall → Running → Running
called o call c = called_at (if is_some (cell call c.report.last).installs then c.position + 1 else c.position) o call c

abbrev pub on_cell : Name → PlainCall → Doing → Doing
on_cell name call d = record d { cells = map (λ c. if bytes_eq c.report.cell.name name then called d.ordinal call c else c) d.cells }

-- the value of a cell now
abbrev pub value_of_cell : Name → Doing → Option Plain
value_of_cell name d = option_map (λ c. c.report.last) (find (λ c. bytes_eq c.report.cell.name name) d.cells)

abbrev pub noted : Command → Answer → Locals → Doing → Doing
noted command answer names d = record d { lines = d.lines ++ record { ordinal = d.ordinal; command = command; answer = answer } ∷ []; names = names }

abbrev pub bound_to : Name → Option Plain → Doing → Doing
bound_to x (Some p) d = record d { names = bind x (collection (value_read p)) d.names }
bound_to x None d = d

abbrev pub published : Name → Name → Option Plain → Doing → Doing
published name x (Some p) d =
    if nat_lt PUBLISH_LIMIT (count p.values) then noted (commands.Publish name x) (Refused (Publish (count p.values))) d.names d
    else on_cell name (calls.Publish p) d
published name x None d = d

abbrev pub done_locally : Command → Option Given → Doing → Doing
done_locally command (Some g) d = noted command g.answer g.after d
done_locally command None d = d

abbrev pub done_by_call : Command → Option (Name × PlainCall) → Doing → Doing
done_by_call command (Some call) d = on_cell call.0 call.1 d
done_by_call command None d = done_locally command (local command d.names) d

-- a call with an array of at most so many elements
abbrev pub array_call : Command → Name → List Val → Values → PlainCall → Doing → Doing
array_call command name xs wanted call d =
    if nat_lt PUBLISH_LIMIT (length xs) then noted command (Refused (Publish (length xs))) d.names d
    else if nat_lt PUBLISH_LIMIT (count wanted) then noted command (Refused (Publish (count wanted))) d.names d
    else on_cell name call d

abbrev pub exchanged : Command → Name → Option (List Val) → (List Val → PlainCall) → Doing → Doing
exchanged command name (Some xs) call d = array_call command name xs values.Unset (call xs) d
exchanged command name None call d = d

abbrev pub compared : Command → Name → Option (List Val) → Option Values → Doing → Doing
compared command name (Some xs) (Some wanted) d = array_call command name xs wanted (calls.CompareExchange xs wanted) d
compared command name xs wanted d = d

-- the factory runs where the key is absent
abbrev pub probe_at : Name → Val → Option Running → Probe
probe_at name k None = Idle
probe_at name k (Some c) = if is_some (value_in k c.report.last) then Idle else Ran c.position

abbrev pub cell_now : Name → Doing → Option Running
cell_now name d = find (λ c. bytes_eq c.report.cell.name name) d.cells

-- one command
abbrev pub did : Command → Doing → Doing
did (commands.Read name x) d = on_cell name calls.Read (bound_to x (value_of_cell name d) d)
did (commands.Publish name x) d = published name x (collection_at d.names x) d
did (commands.Exchange name x) d = exchanged (commands.Exchange name x) name (array_at d.names x) calls.Exchange d
did (commands.CompareExchange name x y) d = compared (commands.CompareExchange name x y) name (array_at d.names x) (wanted_at d.names y) d
did (commands.Initialize name x) d = exchanged (commands.Initialize name x) name (array_at d.names x) calls.Initialize d
did (commands.GetOrAddMade name k make) d = on_cell name (calls.GetOrAddMade k make (probe_at name k (cell_now name d))) d
did command d = done_by_call command (call_of command) d

abbrev pub next_ordinal : Doing → Doing
next_ordinal d = record d { ordinal = d.ordinal + 1 }

-- one part, which begins with no names
abbrev pub part_done : Doing → Part → Doing
part_done d part = fold (λ e command. next_ordinal (did command e)) (record d { names = no_locals }) part.commands

abbrev pub all_done : Script → Doing
all_done script = fold part_done (record { cells = map opened script.cells; lines = []; names = no_locals; ordinal = 1 }) script.parts

-- the report of the script done by one worker
abbrev pub alone : Script → Report
alone script = record { workers = 1; cells = map (λ c. c.report) (all_done script).cells; locals = (all_done script).lines ∷ [] }
