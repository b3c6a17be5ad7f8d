-- The canonical text is that of the lines of a parser, which are read again.
use Rattle.std.proofs.Common.{◌≡◌, ℕ, List, [], ◌∷◌, ◌++◌, map, Some, None, Ok, inl, refl, sym, ap, ◌∙◌, append_assoc}
use Rattle.std.specs.Prelude.{unwrap_or}
use Rattle.std.specs.List.{flat_map, AllByRecursion}
use Rattle.std.proofs.lemmas.List.{append-nil}
use Rattle.plain_model.specs.declared.commands.Command.{Command}
use Rattle.plain_model.specs.declared.report.CellDecl.{CellDecl}
use Rattle.plain_model.specs.declared.report.Part.{Part}
use Rattle.plain_model.specs.declared.report.Version.{Version}
use Rattle.plain_model.specs.declared.report.Version.TheVariants as versions
use Rattle.plain_model.specs.Lawful.{upgrade}
use Rattle.plain_model.specs.Text.{spaced, line, command_words, decl_words}
use Rattle.script_line.specs.declared.line.Line.{Line}
use Rattle.script_line.specs.declared.line.Line.TheVariants as lines
use Rattle.script.specs.declared.parser.Parser.{Parser}
use Rattle.script.specs.Lines.{script_lines}
use Rattle.script.specs.Parser.{start, script_of}
use Rattle.script.specs.Grammar.{read_lines, read_script}
use Rattle.script.specs.Printing.{header_text, part_text, canonical_text}
use Rattle.script.proofs.LineByLine.{a_line}
use Rattle.script.specs.RoundTrip.{IsReadAgain, IsUpgradedReadAgain}
use Rattle.script_line.proofs.WrittenWords.{AreWords}
use Rattle.script_line.proofs.ReadAgain.{Words}
use Rattle.script_line.specs.Written.{written_line}
use Rattle.script.proofs.TextLines.{lines-written}
use Rattle.script.proofs.Passes.{IsSaid}
use Rattle.script.proofs.Traces.{part_trace, trace_of, trace, header_words, begun}
use Rattle.script.proofs.Rereading.{written, header_is_words, header_read, reread}
use Rattle.script.proofs.Reached.{IsEnded, all_read}
use Rattle.script.proofs.Upgraded.{in_last_version, made_in_last_version}

-- ---- the text of lines

abbrev text_of : List Line → List ℕ
text_of ls = flat_map line (map written_line ls)

text-append : (ls ms : List Line) → text_of (ls ++ ms) ≡ text_of ls ++ text_of ms
text-append [] ms = refl
text-append (l ∷ ls) ms = ap (λ t. line (written_line l) ++ t) (text-append ls ms) ∙ sym (append_assoc (line (written_line l)) (text_of ls) (text_of ms))

abbrev cells_text : List CellDecl → List ℕ
cells_text cells = flat_map (λ c. line (decl_words c)) cells

abbrev commands_text : List Command → List ℕ
commands_text cs = flat_map (λ c. line (command_words c)) cs

cells_written : (cells : List CellDecl) → text_of (map lines.Cell cells) ≡ cells_text cells
cells_written [] = refl
cells_written (c ∷ cells) = ap (λ t. line (decl_words c) ++ t) (cells_written cells)

commands_written : (cs : List Command) → text_of (map lines.Command cs) ≡ commands_text cs
commands_written [] = refl
commands_written (c ∷ cs) = ap (λ t. line (command_words c) ++ t) (commands_written cs)

part_written : (part : Part) → text_of (part_trace part) ≡ part_text part
part_written part =
    let first : List ℕ = line (written_line lines.Worker) in
    let last : List ℕ = line (written_line lines.End) in
    ap (λ t. first ++ t) (text-append (map lines.Command part.commands) (lines.End ∷ []) ∙ ap (λ t. t ++ last) (commands_written part.commands)) ∙ sym (append_assoc first (commands_text part.commands) last)

parts_written : (parts : List Part) → text_of (flat_map part_trace parts) ≡ flat_map part_text parts
parts_written [] = refl
parts_written (p ∷ ps) = text-append (part_trace p) (flat_map part_trace ps) ∙ ap (λ t. t ++ text_of (flat_map part_trace ps)) (part_written p) ∙ ap (λ t. part_text p ++ t) (parts_written ps)

trace_written : (cells : List CellDecl) (parts : List Part) → text_of (trace_of cells parts None) ≡ cells_text cells ++ flat_map part_text parts
trace_written cells parts =
    text-append (map lines.Cell cells) (flat_map part_trace parts ++ []) ∙ ap (λ t. t ++ text_of (flat_map part_trace parts ++ [])) (cells_written cells)
    ∙ ap (λ ls. cells_text cells ++ text_of ls) (append-nil (flat_map part_trace parts)) ∙ ap (λ t. cells_text cells ++ t) (parts_written parts)

all_written : (p : Parser) (v : Version) → p.version ≡ Some v → p.commands ≡ None → canonical_text (script_of p) ≡ flat_map line (header_words v ∷ map written_line (trace p))
all_written p v has none =
    let parts : List ℕ = flat_map part_text p.parts in
    ap (λ o. header_text (unwrap_or o versions.One) ++ cells_text p.cells ++ parts) has ∙ append_assoc (header_text v) (cells_text p.cells) parts
    ∙ ap (λ t. header_text v ++ t) (sym (trace_written p.cells p.parts)) ∙ ap (λ o. header_text v ++ text_of (trace_of p.cells p.parts o)) (sym none)

-- ---- its lines

are_words : (v : Version) (ls : List Line) → AllByRecursion (IsSaid v) ls → AllByRecursion AreWords (map written_line ls)
are_words v [] said = tt
are_words v (l ∷ ls) said = (said.0.words, are_words v ls said.1)

lines_of : (v : Version) (all : List Words) → AllByRecursion AreWords all → script_lines (flat_map line (header_words v ∷ all)) ≡ map spaced (header_words v ∷ all)
lines_of v all are = lines-written (header_words v ∷ all) (header_is_words v, are)

as_written : (ls : List Line) → map spaced (map written_line ls) ≡ map written ls
as_written [] = refl
as_written (l ∷ ls) = ap (λ more. written l ∷ more) (as_written ls)

printed_again : (p : Parser) → IsEnded p → read_script (canonical_text (script_of p)) ≡ Ok (script_of p)
printed_again p is =
    let m = is.made in
    let v : Version = m.version in
    ap read_script (all_written p v m.has is.closed)
    ∙ ap (read_lines start 1) (lines_of v (map written_line (trace p)) (are_words v (trace p) m.said))
    ∙ ap (λ more. read_lines start 1 (spaced (header_words v) ∷ more)) (as_written (trace p))
    ∙ header_read (map written (trace p)) v
    ∙ reread (trace p) (begun v) 2 v p refl m.said m.made is.closed

pub read_again : IsReadAgain
read_again bytes script e =
    let s = all_read (script_lines bytes) start 1 script (a_line bytes) (inl refl) e in
    ap (λ t. read_script (canonical_text t)) (sym s.same) ∙ printed_again s.parser s.ended ∙ ap Ok s.same

pub upgraded_read_again : IsUpgradedReadAgain
upgraded_read_again bytes script e =
    let s = all_read (script_lines bytes) start 1 script (a_line bytes) (inl refl) e in
    ap (λ t. read_script (canonical_text (upgrade t))) (sym s.same)
    ∙ printed_again (in_last_version s.parser) (record { made = made_in_last_version s.parser s.ended.made; closed = s.ended.closed })
    ∙ ap (λ t. Ok (upgrade t)) s.same
