-- What a status shows to the outside: the exit status of the process, and the line for the sink of faults.
use Rattle.std.specs.Prelude.{ℕ, List, [], ◌∷◌, codes, decimal, if◌then◌else◌, ◌==◌}
use Rattle.std.specs.List.{concat}
use Rattle.immrun_core.specs.declared.status.Status.{Status}
use Rattle.immrun_core.specs.declared.status.Status.TheVariants.{Done, Usage, Refused, ReadFault, WriteFault, Memory, TooLong}

-- the exit status
abbrev pub exit_code : Status → ℕ
exit_code Done = 0
exit_code Usage = 2
exit_code (Refused line code) = 3
exit_code ReadFault = 4
exit_code WriteFault = 5
exit_code Memory = 6
exit_code TooLong = 7

-- the name of a reason to refuse a line; no reason has a number above 7
abbrev pub reason : ℕ → List ℕ
reason code =
    if code == 1 then codes "header"
    else if code == 2 then codes "word"
    else if code == 3 then codes "value"
    else if code == 4 then codes "name"
    else if code == 5 then codes "kind"
    else if code == 6 then codes "structure"
    else if code == 7 then codes "limit"
    else codes "form"

-- what the sink of faults is told
abbrev pub fault_line : Status → List ℕ
fault_line Done = []
fault_line Usage = codes "usage: immrun run N | check | gen N\n"
fault_line (Refused line code) =
    concat (codes "refused line " ∷ decimal line ∷ codes ": " ∷ decimal code ∷ codes " " ∷ reason code ∷ codes "\n" ∷ [])
fault_line ReadFault = codes "read fault\n"
fault_line WriteFault = codes "write fault\n"
fault_line Memory = codes "memory\n"
fault_line TooLong = codes "input longer than 1048576 bytes\n"
