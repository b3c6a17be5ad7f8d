-- Which bytes are a script.
use Rattle.std.specs.Prelude.{◌≡◌, ℕ, ◌+◌, List, [], ◌∷◌, length, ◌==◌, Result, Ok, Err}
use Rattle.plain_model.specs.declared.report.Script.{Script}
use Rattle.script_line.specs.declared.codes.Code.{Code}
use Rattle.script_line.specs.Codes.{◌>>=◌, rank}
use Rattle.script.specs.declared.fault.ParseFault.{ParseFault}
use Rattle.script.specs.declared.fault.ParseError.{ParseError}
use Rattle.script.specs.declared.fault.ParseError.TheVariants.{Fault, Memory}
use Rattle.script.specs.declared.parser.Parser.{Parser}
use Rattle.script.specs.Lines.{script_lines}
use Rattle.script.specs.Parser.{start, script_of, next_line}

-- a judgement of the n-th line
abbrev pub at_line : {A : Type 0} → ℕ → Result A Code → Result A ParseFault
at_line n (Ok a) = Ok a
at_line n (Err c) = Err (record { line = n; code = rank c })

-- the lines from the n-th on
unfoldable pub read_lines : Parser → ℕ → List (List ℕ) → Result Script ParseFault
read_lines p n [] = Ok (script_of p)
read_lines p n (line ∷ lines) = at_line n (next_line p (length lines == 0) line) >>= λ next. read_lines next (n + 1) lines

-- The script that the bytes are, or the least refused line with the least code on it.
abbrev pub read_script : List ℕ → Result Script ParseFault
read_script bytes = read_lines start 1 (script_lines bytes)

-- The answer is this reading, unless memory ran out.
abbrev pub Answers : Result Script ParseError → Result Script ParseFault → Type 0
Answers (Ok script) read = read ≡ Ok script
Answers (Err (Fault fault)) read = read ≡ Err fault
Answers (Err Memory) read = Unit {0}
