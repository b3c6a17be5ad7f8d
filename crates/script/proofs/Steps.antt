-- A line that is added, or not.
use Rattle.std.proofs.Common.{◌≡◌, ℕ, Bool, true, false, List, Option, Result, Ok, Err, refl}
use Rattle.std.specs.Prelude.{IfOk, is_none}
use Rattle.std.specs.List.{list_all}
use Rattle.script_line.specs.declared.codes.Code.{Code}
use Rattle.script_line.specs.declared.line.Line.{Line}
use Rattle.script_line.specs.Lines.{line_of}
use Rattle.script.specs.declared.parser.Parser.{Parser}
use Rattle.script.specs.declared.parser.Stop.{Stop}
use Rattle.script.specs.declared.parser.Stop.TheVariants as stops
use Rattle.script.specs.Symbols.{Binding}
use Rattle.script.specs.Parser.{version_of, after, judgement, with_line, Judges, IsStopped, IsStep, is_allowed, significant_line}

pub with_line-stopped : {E : Type 0} (p new : Parser) (is_last : Bool) (line : Line) (stop : Stop) (result : Result (Result (Unit {0}) Code) E)
    → Judges (Err stop) (judgement p is_last line) → IsStopped stop result → IfOk result (λ step. IsStep new step (with_line p is_last line))
unfolding with_line
with_line-stopped p new is_last line (stops.Code c) (Ok (Err d)) judges is =
    let same : d ≡ c = cc in
    rw (judges, same) refl
with_line-stopped p new is_last line (stops.Code c) (Ok (Ok u)) judges is = absurd cc
with_line-stopped p new is_last line (stops.Code c) (Err e) judges is = tt
with_line-stopped p new is_last line stops.Memory (Ok r) judges is = absurd is
with_line-stopped p new is_last line stops.Memory (Err e) judges is = tt

pub with_line-judged : {E : Type 0} (p new : Parser) (is_last : Bool) (line : Line) (bound : Option Binding) (result : Result (Result (Unit {0}) Code) E)
    → judgement p is_last line ≡ Ok bound → IfOk result (λ step. IsStep new step (Ok (after p line bound))) → IfOk result (λ step. IsStep new step (with_line p is_last line))
unfolding with_line
with_line-judged p new is_last line bound result judged is = rw judged is

-- ---- a significant line that says something

pub significant_line-read : {E : Type 0} (p new : Parser) (is_last : Bool) (bytes : List ℕ) (ws : List (List ℕ)) (line : Line) (result : Result (Result (Unit {0}) Code) E)
    → is_none p.version ≡ false → list_all is_allowed bytes ≡ true → line_of (version_of p) ws ≡ Ok line
    → IfOk result (λ step. IsStep new step (with_line p is_last line)) → IfOk result (λ step. IsStep new step (significant_line p is_last bytes ws))
unfolding significant_line
significant_line-read p new is_last bytes ws line result begun clean read is = rw (begun, clean, read) is
