-- The lines that make a parser, in the order in which they are printed.
use Rattle.std.proofs.Common.{◌≡◌, Bool, true, false, not, ◌&&◌, List, [], ◌∷◌, ◌++◌, map, length, Option, Some, None, Result, Ok, Err, refl, sym, ap, subst, ◌∙◌, append_assoc, arith}
use Rattle.std.specs.Prelude.{◌==◌, is_some, is_none}
use Rattle.std.specs.Prelude.{codes as bytes}
use Rattle.std.specs.List.{flat_map, AllByRecursion}
use Rattle.std.proofs.lemmas.Bool.{and_parts, eqb-true}
use Rattle.std.proofs.lemmas.List.{append-nil, map-append}
use Rattle.std.proofs.lemmas.Grind.{flat_map-append}
use Rattle.plain_model.specs.declared.commands.Command.{Command}
use Rattle.plain_model.specs.declared.report.CellDecl.{CellDecl}
use Rattle.plain_model.specs.declared.report.Part.{Part}
use Rattle.plain_model.specs.declared.report.Version.{Version}
use Rattle.plain_model.specs.Text.{version_word}
use Rattle.script_line.specs.declared.codes.Code.{Code}
use Rattle.script_line.specs.declared.line.Line.{Line}
use Rattle.script_line.specs.declared.line.Line.TheVariants as lines
use Rattle.script_line.specs.Codes.{◌>>=◌}
use Rattle.script_line.proofs.Judgements.{moved}
use Rattle.script.specs.declared.parser.Parser.{Parser}
use Rattle.script.specs.Symbols.{Binding}
use Rattle.script.specs.Parser.{start, is_in_place, leaves_open, structure_ok, after, with_line}
use Rattle.script_line.proofs.ReadAgain.{Words}
use Rattle.script.proofs.Passes.{IsSaid, Passes, passes_so, passes_earlier}

abbrev pub part_trace : Part → List Line
part_trace part = lines.Worker ∷ (map lines.Command part.commands ++ lines.End ∷ [])

abbrev open_trace : Option (List Command) → List Line
open_trace None = []
open_trace (Some cs) = lines.Worker ∷ map lines.Command cs

abbrev pub trace_of : List CellDecl → List Part → Option (List Command) → List Line
trace_of cells parts commands = map lines.Cell cells ++ (flat_map part_trace parts ++ open_trace commands)

abbrev pub trace : Parser → List Line
trace p = trace_of p.cells p.parts p.commands

-- ---- a line more

cell_more : (cells : List CellDecl) (parts : List Part) (commands : Option (List Command)) (cell : CellDecl) → (is_none commands && length parts == 0) ≡ true
    → trace_of (cells ++ cell ∷ []) parts commands ≡ trace_of cells parts commands ++ lines.Cell cell ∷ []
cell_more cells [] None cell ok = rw (map-append, append-nil (map lines.Cell cells)) (append-nil (map lines.Cell cells ++ lines.Cell cell ∷ []))
cell_more cells (p ∷ ps) None cell ok = absurd (omega (arith, eqb-true (length (p ∷ ps)) 0 ok))
cell_more cells parts (Some cs) cell ok = absurd cc

worker_more : (cells : List CellDecl) (parts : List Part) (commands : Option (List Command)) → is_none commands ≡ true → trace_of cells parts (Some []) ≡ trace_of cells parts commands ++ lines.Worker ∷ []
worker_more cells parts None ok = simp (append-nil, append_assoc)
worker_more cells parts (Some cs) ok = absurd cc

command_more : (cells : List CellDecl) (parts : List Part) (cs : List Command) (c : Command) → trace_of cells parts (Some (cs ++ c ∷ [])) ≡ trace_of cells parts (Some cs) ++ lines.Command c ∷ []
command_more cells parts cs c = simp (map-append, append_assoc)

end_more : (cells : List CellDecl) (parts : List Part) (cs : List Command) → trace_of cells (parts ++ (record { commands = cs }) ∷ []) None ≡ trace_of cells parts (Some cs) ++ lines.End ∷ []
end_more cells parts cs = simp (flat_map-append, append-nil, append_assoc)

in_order : (p : Parser) (l : Line) (bound : Option Binding) → is_in_place p l ≡ true → trace (after p l bound) ≡ trace p ++ l ∷ []
unfolding after
in_order p (lines.Cell cell) bound ok = cell_more p.cells p.parts p.commands cell ok
in_order p lines.Worker bound ok = worker_more p.cells p.parts p.commands ok
in_order p (lines.Command c) bound ok = by_commands p.commands refl ok
  where
    by_commands : (o : Option (List Command)) → p.commands ≡ o → is_some o ≡ true → trace (after p (lines.Command c) bound) ≡ trace p ++ lines.Command c ∷ []
    by_commands None e some = absurd cc
    by_commands (Some cs) e some = rw e (command_more p.cells p.parts cs c)
in_order p lines.End bound ok = by_commands p.commands refl ok
  where
    by_commands : (o : Option (List Command)) → p.commands ≡ o → is_some o ≡ true → trace (after p lines.End bound) ≡ trace p ++ lines.End ∷ []
    by_commands None e some = absurd cc
    by_commands (Some cs) e some = rw e (end_more p.cells p.parts cs)

-- ---- what these lines make

-- where none of them is the last
unfoldable pub replay : Parser → List Line → Result Parser Code
replay p [] = Ok p
replay p (l ∷ ls) = with_line p false l >>= λ next. replay next ls

last_step : (r : Result Parser Code) → (r >>= λ x. Ok x) ≡ r
last_step (Ok x) = refl
last_step (Err c) = refl

replay-more : (p : Parser) (ls : List Line) (l : Line) (made next : Parser) → replay p ls ≡ Ok made → with_line made false l ≡ Ok next → replay p (ls ++ l ∷ []) ≡ Ok next
unfolding replay
replay-more p [] l made next e step = last_step (with_line p false l) ∙ moved (λ (q : Parser). with_line q false l ≡ Ok next → with_line p false l ≡ Ok next) p made e (λ h. h) step
replay-more p (k ∷ ks) l made next e step = by_first (with_line p false k) (λ x h. replay-more x ks l made next h step) e
  where
    by_first : (r : Result Parser Code) → ((x : Parser) → replay x ks ≡ Ok made → replay x (ks ++ l ∷ []) ≡ Ok next) → (r >>= λ x. replay x ks) ≡ Ok made → (r >>= λ x. replay x (ks ++ l ∷ [])) ≡ Ok next
    by_first (Ok x) more h = more x h
    by_first (Err c) more h = absurd cc

-- ---- made by its lines

abbrev pub header_words : Version → Words
header_words version = bytes "immrun" ∷ version_word version ∷ []

-- after the header
abbrev pub begun : Version → Parser
begun version = record start { version = Some version }

-- its lines, in the order in which they are printed, are said by what is written for them, and make it
pub record IsMade (p : Parser) : Type 0 where
  pub version : Version
  pub has : p.version ≡ Some version
  pub said : AllByRecursion (IsSaid version) (trace p)
  pub made : replay (begun version) (trace p) ≡ Ok p

all-more : {A : Type 0} (P : A → Type 0) (xs : List A) (x : A) → AllByRecursion P xs → P x → AllByRecursion P (xs ++ x ∷ [])
all-more P [] x h p = (p, tt)
all-more P (y ∷ xs) x h p = (h.0, all-more P xs x h.1 p)

version_kept : (p : Parser) (l : Line) (bound : Option Binding) → (after p l bound).version ≡ p.version
unfolding after
version_kept p (lines.Cell cell) bound = refl
version_kept p lines.Worker bound = refl
version_kept p (lines.Command c) bound = refl
version_kept p lines.End bound = refl

pub version_next : (p : Parser) (is_last : Bool) (l : Line) (next : Parser) → Passes p is_last l next → next.version ≡ p.version
version_next p is_last l next s = ap (λ (q : Parser). q.version) (sym s.made) ∙ version_kept p l s.bound

pub made-more : (p : Parser) (is_last : Bool) (l : Line) (next : Parser) → (m : IsMade p) → IsSaid m.version l → Passes p is_last l next → IsMade next
unfolding structure_ok
made-more p is_last l next m is s =
    let place = and_parts (is_in_place p l) (not (is_last && leaves_open l)) s.structure in
    let order : trace next ≡ trace p ++ l ∷ [] = ap trace (sym s.made) ∙ in_order p l s.bound place.0 in
    let step = passes_so p false l next (passes_earlier p is_last l next s) in
    record {
      version = m.version;
      has = version_next p is_last l next s ∙ m.has;
      said = subst (AllByRecursion (IsSaid m.version)) (sym order) (all-more (IsSaid m.version) (trace p) l m.said is);
      made = ap (replay (begun m.version)) order ∙ replay-more (begun m.version) (trace p) l p next m.made step;
    }
