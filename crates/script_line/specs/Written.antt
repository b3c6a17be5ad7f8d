-- What is written for a line.
use Rattle.std.specs.Prelude.{◌≡◌, ℕ, List, [], ◌∷◌, Ok}
use Rattle.std.specs.Prelude.{codes as bytes}
use Rattle.plain_model.specs.declared.report.Version.{Version}
use Rattle.plain_model.specs.Text.{spaced, command_words, decl_words}
use Rattle.script_line.specs.declared.line.Line.{Line}
use Rattle.script_line.specs.declared.line.Line.TheVariants as lines
use Rattle.script_line.specs.Words.{words}
use Rattle.script_line.specs.Lines.{line_of}

abbrev pub written_line : Line → List (List ℕ)
written_line (lines.Cell cell) = decl_words cell
written_line lines.Worker = bytes "worker" ∷ []
written_line (lines.Command c) = command_words c
written_line lines.End = bytes "end" ∷ []

-- a line that some words say is said by the words of what is written for it, in each version
abbrev pub LinesAreReadAgain : Type 0
LinesAreReadAgain =
    (version : Version) (ws : List (List ℕ)) (l : Line) → line_of version ws ≡ Ok l → line_of version (words (spaced (written_line l))) ≡ Ok l
