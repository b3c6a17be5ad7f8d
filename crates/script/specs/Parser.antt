-- What the lines so far have made, and what one line more makes of it.
use Rattle.std.specs.Prelude.{◌≡◌, ℕ, List, [], ◌∷◌, ◌++◌, length, Bool, true, false, not, ◌&&◌, ◌||◌, nat_lt, nat_le, ◌==◌, Option, Some, None, is_some, is_none, unwrap_or, Result, Ok, Err, IfOk, if◌then◌else◌}
use Rattle.std.specs.Prelude.{codes as bytes}
use Rattle.std.specs.List.{list_all}
use Rattle.std.specs.Str.{bytes_eq}
use Rattle.plain_model.specs.declared.limits.TheConstants.{CELLS_LIMIT, PARTS_LIMIT, COMMANDS_LIMIT, NAMES_LIMIT}
use Rattle.plain_model.specs.declared.commands.Command.{Command}
use Rattle.plain_model.specs.declared.report.CellDecl.{CellDecl}
use Rattle.plain_model.specs.declared.report.Script.{Script}
use Rattle.plain_model.specs.declared.report.Version.{Version}
use Rattle.plain_model.specs.declared.report.Version.TheVariants as versions
use Rattle.plain_model.specs.Kinds.{is_cell_kind}
use Rattle.plain_model.specs.Plain.{is_unset}
use Rattle.script_line.specs.declared.codes.Code.{Code}
use Rattle.script_line.specs.declared.codes.Code.TheVariants as codes
use Rattle.script_line.specs.declared.line.Line.{Line}
use Rattle.script_line.specs.declared.line.Line.TheVariants as lines
use Rattle.script_line.specs.Codes.{◌>>=◌, ◌⊗◌}
use Rattle.script_line.specs.Words.{words}
use Rattle.script_line.specs.Lines.{line_of}
use Rattle.script.specs.declared.parser.Parser.{Parser}
use Rattle.script.specs.declared.parser.Stop.{Stop}
use Rattle.script.specs.declared.parser.Stop.TheVariants as stops
use Rattle.script.specs.Symbols.{Binding, cell_kind, require, with_bound}
use Rattle.script.specs.Commands.{check}
use Rattle.script.specs.Limits.{seq_limit, is_short, command_is_short, contents_fit, may_publish}

abbrev pub start : Parser
start = record { version = None; cells = []; parts = []; commands = None; names = [] }

-- the version that the header names; before it, the first one
abbrev pub version_of : Parser → Version
version_of p = unwrap_or p.version versions.One

abbrev pub script_of : Parser → Script
script_of p = record { version = version_of p; cells = p.cells; parts = p.parts }

-- the commands of the part that is open
abbrev pub commands_so_far : Parser → List Command
commands_so_far p = unwrap_or p.commands []

-- ---- names and kinds: codes 4 and 5

-- In the second version a cell may also have an array to begin with.
abbrev pub may_begin : Version → CellDecl → Bool
may_begin versions.One cell = is_cell_kind cell.kind
may_begin versions.Two cell = is_cell_kind cell.kind || not (is_unset cell.values)

-- a cell is declared once, of a kind that it may have
abbrev pub checked_cell : Version → List CellDecl → CellDecl → Result (Unit {0} × Unit {0}) Code
checked_cell version cells cell = require codes.Name (is_none (cell_kind cells cell.name)) ⊗ require codes.Kind (may_begin version cell)

-- the local name that a line binds, if it binds one
abbrev pub line_binding : Parser → Line → Result (Option Binding) Code
line_binding p (lines.Cell cell) = checked_cell (version_of p) p.cells cell >>= λ u. Ok None
line_binding p (lines.Command c) = check p.cells p.names c
line_binding p _ = Ok None

-- ---- structure: code 6

-- cells before the parts, and commands and `end` in an open part
abbrev pub is_in_place : Parser → Line → Bool
is_in_place p (lines.Cell cell) = is_none p.commands && length p.parts == 0
is_in_place p lines.Worker = is_none p.commands
is_in_place p (lines.Command c) = is_some p.commands
is_in_place p lines.End = is_some p.commands

-- after the line, the part that is open still needs its `end`
abbrev pub leaves_open : Line → Bool
leaves_open lines.Worker = true
leaves_open (lines.Command c) = true
leaves_open (lines.Cell cell) = false
leaves_open lines.End = false

unfoldable pub structure_ok : Parser → Bool → Line → Bool
structure_ok p is_last line = is_in_place p line && not (is_last && leaves_open line)

-- ---- limits: code 7

-- the most numbers of a `seq`, and the most first contents of a cell, by the version
abbrev pub most_of : Parser → ℕ
most_of p = seq_limit (version_of p)

-- cells with their first contents, parts, and commands with `publish` and the names of a part
unfoldable pub limits_ok : Parser → Line → Option Binding → Bool
limits_ok p (lines.Cell cell) bound = nat_lt (length p.cells) CELLS_LIMIT && is_short (most_of p) cell.values && contents_fit (most_of p) cell
limits_ok p lines.Worker bound = nat_lt (length p.parts) PARTS_LIMIT
limits_ok p (lines.Command c) bound =
    nat_lt (length (commands_so_far p)) COMMANDS_LIMIT && may_publish (commands_so_far p) c
    && nat_le (length (with_bound p.names bound)) NAMES_LIMIT && command_is_short (most_of p) c
limits_ok p lines.End bound = true

-- ---- what a line makes of it

unfoldable pub after : Parser → Line → Option Binding → Parser
after p (lines.Cell cell) bound = record p { cells = p.cells ++ cell ∷ [] }
after p lines.Worker bound = record p { commands = Some []; names = [] }
after p (lines.Command c) bound = record p { commands = Some (commands_so_far p ++ c ∷ []); names = with_bound p.names bound }
after p lines.End bound = record p { parts = p.parts ++ (record { commands = commands_so_far p }) ∷ []; commands = None; names = [] }

-- what a line binds, the last one or not, where it is in place and there is room for it
unfoldable pub if_room : Parser → Bool → Line → Option Binding → Result (Option Binding) Code
if_room p is_last line bound =
    if not (structure_ok p is_last line) then Err codes.Structure
    else if not (limits_ok p line bound) then Err codes.Limit
    else Ok bound

-- what a line binds, the last one or not; else the least code from the names on
unfoldable pub judgement : Parser → Bool → Line → Result (Option Binding) Code
judgement p is_last line = line_binding p line >>= if_room p is_last line

-- with a line, the last one or not
unfoldable pub with_line : Parser → Bool → Line → Result Parser Code
with_line p is_last line = judgement p is_last line >>= λ bound. Ok (after p line bound)

-- A method answers this judgement, unless memory ran out.
abbrev pub Judges : Result (Option Binding) Stop → Result (Option Binding) Code → Type 0
Judges (Ok bound) judged = judged ≡ Ok bound
Judges (Err (stops.Code c)) judged = judged ≡ Err c
Judges (Err stops.Memory) judged = Unit {0}

-- The code that stopped it, or want of memory, is answered.
abbrev pub IsStopped : {A E : Type 0} → Stop → Result (Result A Code) E → Type 0
IsStopped (stops.Code c) result = IfOk result (λ r. r ≡ Err c)
IsStopped stops.Memory result = IfOk result (λ r. ⊥)

-- ---- the bytes of a line

-- a byte that may stand in a significant line: a tab, or from the space to the tilde
abbrev pub is_allowed : ℕ → Bool
is_allowed b = b == 9 || (nat_le 32 b && nat_le b 126)

-- a word that begins with #
abbrev pub is_comment : List ℕ → Bool
is_comment [] = false
is_comment (b ∷ bs) = b == 35

-- a line without words, or a comment
abbrev pub is_passed_over : List (List ℕ) → Bool
is_passed_over [] = true
is_passed_over (first ∷ ws) = is_comment first

-- the version that a word names
abbrev pub named_version : List ℕ → Option Version
named_version word =
    if bytes_eq word (bytes "1") then Some versions.One
    else if bytes_eq word (bytes "2") then Some versions.Two
    else None

-- the language and its version
abbrev pub header_version : List (List ℕ) → Option Version
header_version (a ∷ b ∷ []) = if bytes_eq a (bytes "immrun") then named_version b else None
header_version ws = None

-- A line that is passed over is wrong where it is the last one and a header or an `end` is missing.
abbrev pub with_nothing : Parser → Bool → Result Parser Code
with_nothing p is_last =
    if is_last && is_none p.version then Err codes.Header
    else if is_last && is_some p.commands then Err codes.Structure
    else Ok p

abbrev pub with_version : Parser → Option Version → Result Parser Code
with_version p None = Err codes.Header
with_version p (Some version) = Ok (record p { version = Some version })

-- the first significant line
abbrev pub with_header : Parser → List (List ℕ) → Result Parser Code
with_header p ws = with_version p (header_version ws)

unfoldable pub significant_line : Parser → Bool → List ℕ → List (List ℕ) → Result Parser Code
significant_line p is_last line ws =
    if is_none p.version then with_header p ws
    else if not (list_all is_allowed line) then Err codes.Word
    else (line_of (version_of p) ws >>= with_line p is_last)

-- The state after one line, the last one or not, or the least code that applies.
unfoldable pub next_line : Parser → Bool → List ℕ → Result Parser Code
next_line p is_last line =
    if is_passed_over (words line) then with_nothing p is_last else significant_line p is_last line (words line)

-- A method did what this judgement says: it made this state, or answered this code.
abbrev pub IsStep : {A : Type 0} → Parser → Result A Code → Result Parser Code → Type 0
IsStep new (Ok a) step = step ≡ Ok new
IsStep new (Err c) step = step ≡ Err c
