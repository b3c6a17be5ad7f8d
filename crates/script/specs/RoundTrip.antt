-- Printing a script and reading it.
use Rattle.std.specs.Prelude.{◌≡◌, ℕ, List, Ok}
use Rattle.plain_model.specs.declared.report.Script.{Script}
use Rattle.plain_model.specs.Lawful.{upgrade}
use Rattle.script.specs.Grammar.{read_script}
use Rattle.script.specs.Printing.{canonical_text}

-- the canonical text of a script that some bytes are says this script again
abbrev pub IsReadAgain : Type 0
IsReadAgain = (bytes : List ℕ) (script : Script) → read_script bytes ≡ Ok script → read_script (canonical_text script) ≡ Ok script

-- so does that of the script in the last version: what the first version takes, the last one takes too
abbrev pub IsUpgradedReadAgain : Type 0
IsUpgradedReadAgain =
    (bytes : List ℕ) (script : Script) → read_script bytes ≡ Ok script → read_script (canonical_text (upgrade script)) ≡ Ok (upgrade script)
