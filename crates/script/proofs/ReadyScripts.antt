-- What is accepted can be run.
use Rattle.std.proofs.Common.{◌≡◌, ℕ, ◌+◌, ◌<◌, ◌≤◌, Bool, true, false, not, ◌&&◌, cond, leb, ltb, List, [], ◌∷◌, ◌++◌, length, Option, Some, None, Result, Ok, Err, refl, sym, arith, length-append}
use Rattle.std.specs.Prelude.{is_some, is_none, ◌==◌}
use Rattle.std.specs.List.{AllByRecursion, list_all}
use Rattle.std.specs.Result.{is_ok}
use Rattle.std.specs.Str.{bytes_eq}
use Rattle.std.proofs.lemmas.Slice.Eq.{bytes_eq-Decides}
use Rattle.std.proofs.lemmas.Bool.{and_parts, ltb-true, eqb-true}
use Rattle.plain_model.specs.declared.commands.Command.{Command}
use Rattle.plain_model.specs.declared.history.Refusal.{Refusal}
use Rattle.plain_model.specs.declared.names.Class.{Class}
use Rattle.plain_model.specs.declared.plain.Plain.{Plain}
use Rattle.plain_model.specs.declared.report.CellDecl.{CellDecl}
use Rattle.plain_model.specs.declared.report.Part.{Part}
use Rattle.plain_model.specs.declared.report.Script.{Script}
use Rattle.plain_model.specs.declared.report.Version.{Version}
use Rattle.plain_model.specs.Names.{Bindings}
use Rattle.plain_model.specs.Plain.{made}
use Rattle.plain_model.specs.Sources.{are_within}
use Rattle.script_line.specs.declared.codes.Code.{Code}
use Rattle.script_line.specs.declared.codes.Code.TheVariants.{Header, Word, Structure, Limit}
use Rattle.script_line.specs.declared.line.Line.{Line}
use Rattle.script_line.specs.declared.line.Line.TheVariants as lines
use Rattle.script_line.specs.Codes.{◌>>=◌}
use Rattle.script_line.specs.Words.{words}
use Rattle.script_line.specs.Lines.{line_of, command_values, line_is_within}
use Rattle.script_line.proofs.Judgements.{guard_ok, bind_ok, moved}
use Rattle.script_line.proofs.Within.{line_of-within}
use Rattle.script.specs.declared.parser.Parser.{Parser}
use Rattle.script.specs.Lines.{script_lines}
use Rattle.script.specs.Symbols.{Binding, cell_kind, with_bound}
use Rattle.script.specs.Commands.{check}
use Rattle.script.specs.Limits.{is_short, command_is_short, few_enough, contents_fit, may_publish}
use Rattle.script.specs.Parser.{start, version_of, most_of, script_of, commands_so_far, checked_cell, line_binding, is_in_place, leaves_open, structure_ok, limits_ok, after, if_room, judgement, with_line, is_allowed, is_passed_over, header_version, with_version, with_header, with_nothing, significant_line, next_line}
use Rattle.script.specs.Grammar.{at_line, read_lines, read_script}
use Rattle.script.specs.Ready.{IsChecked, AreReady, AreDistinct, HasFirst, IsReady}
use Rattle.script.proofs.Cells.{cell_checked, begins_with_contents}

-- ---- lists that become longer

all-more : {X : Type 0} (P : X → Type 0) (xs : List X) (x : X) → AllByRecursion P xs → P x → AllByRecursion P (xs ++ x ∷ [])
all-more P [] x h p = (p, tt)
all-more P (y ∷ xs) x h p = (h.0, all-more P xs x h.1 p)

-- the names after a command that passes its check
abbrev pub names_with : Bindings Class → Result (Option Binding) Code → Bindings Class
names_with names (Ok bound) = with_bound names bound
names_with names (Err c) = names

-- the names that commands have bound
abbrev pub names_after : List CellDecl → Bindings Class → List Command → Bindings Class
names_after cells names [] = names
names_after cells names (c ∷ cs) = names_after cells (names_with names (check cells names c)) cs

names_after-more : (cells : List CellDecl) (names : Bindings Class) (cs : List Command) (c : Command) (bound : Option Binding)
    → check cells (names_after cells names cs) c ≡ Ok bound → names_after cells names (cs ++ c ∷ []) ≡ with_bound (names_after cells names cs) bound
names_after-more cells names [] c bound e = rw e refl
names_after-more cells names (d ∷ cs) c bound e = names_after-more cells (names_with names (check cells names d)) cs c bound e

AreReady-more : (cells : List CellDecl) (names : Bindings Class) (cs : List Command) (c : Command) → AreReady cells names cs
    → IsChecked cells (names_after cells names cs) c → AreReady cells names (cs ++ c ∷ [])
AreReady-more cells names [] c h is = (is, tt)
AreReady-more cells names (d ∷ cs) c h is =
    let same : names_with names (check cells names d) ≡ with_bound names h.0.bound = rw h.0.checked refl in
    let is_now = rw same at is in
    (h.0, AreReady-more cells (with_bound names h.0.bound) cs c h.1 is_now)

-- where a cell's name is not that of another, it is not the other way round either
other_name : (a b : List ℕ) → bytes_eq a b ≡ false → bytes_eq b a ≡ false
other_name a b e = by_test (bytes_eq b a) refl
  where
    by_test : (t : Bool) → bytes_eq b a ≡ t → t ≡ false
    by_test false is = refl
    by_test true is =
        let same : b ≡ a = (bytes_eq-Decides b a).0 is in
        let is_true : bytes_eq a b ≡ true = (bytes_eq-Decides a b).1 (sym same) in
        absurd cc

-- a cell that none of the others is
undeclared-more : (cells : List CellDecl) (cell : CellDecl) (name : List ℕ) → cell_kind cells name ≡ None → bytes_eq cell.name name ≡ false → cell_kind (cells ++ cell ∷ []) name ≡ None
undeclared-more [] cell name h e = rw e refl
undeclared-more (d ∷ cells) cell name h e = by_test (bytes_eq d.name name) (λ g. undeclared-more cells cell name g e) h
  where
    by_test : (t : Bool) → (cell_kind cells name ≡ None → cell_kind (cells ++ cell ∷ []) name ≡ None)
        → cond t (Some d.kind) (cell_kind cells name) ≡ None → cond t (Some d.kind) (cell_kind (cells ++ cell ∷ []) name) ≡ None
    by_test true more g = absurd cc
    by_test false more g = more g

undeclared-first : (d : CellDecl) (cells : List CellDecl) (name : List ℕ) → cell_kind (d ∷ cells) name ≡ None → (bytes_eq d.name name ≡ false) × (cell_kind cells name ≡ None)
undeclared-first d cells name h = by_test (bytes_eq d.name name) h
  where
    by_test : (t : Bool) → cond t (Some d.kind) (cell_kind cells name) ≡ None → (t ≡ false) × (cell_kind cells name ≡ None)
    by_test true g = absurd cc
    by_test false g = (refl, g)

AreDistinct-more : (cells : List CellDecl) (cell : CellDecl) → AreDistinct cells → cell_kind cells cell.name ≡ None → AreDistinct (cells ++ cell ∷ [])
AreDistinct-more [] cell h e = (refl, tt)
AreDistinct-more (d ∷ cells) cell h e =
    let p = undeclared-first d cells cell.name e in
    (undeclared-more cells cell d.name h.0 (other_name d.name cell.name p.0), AreDistinct-more cells cell h.1 p.1)

-- ---- what holds of the parser after each line

record IsSound (p : Parser) : Type 0 where
  cells : length p.cells ≤ 16
  distinct : AreDistinct p.cells
  first : AllByRecursion HasFirst p.cells
  parts : length p.parts ≤ 8
  few : AllByRecursion (λ part. length part.commands ≤ 4096) p.parts
  ready : AllByRecursion (λ part. AreReady p.cells [] part.commands) p.parts
  -- the part that is open
  room : is_some p.commands ≡ true → length p.parts < 8
  so_few : length (commands_so_far p) ≤ 4096
  so_ready : AreReady p.cells [] (commands_so_far p)
  names : p.names ≡ names_after p.cells [] (commands_so_far p)

is_nothing : {A : Type 0} (o : Option A) → is_none o ≡ true → o ≡ None
is_nothing None e = refl
is_nothing (Some a) e = absurd cc

no_parts : (ps : List Part) → length ps ≡ 0 → ps ≡ []
no_parts [] e = refl
no_parts (p ∷ ps) e = absurd (omega arith)

could_be_made : (most : ℕ) (r : Result Plain Refusal) → few_enough most r ≡ true → is_ok r ≡ true
could_be_made most (Ok p) e = refl
could_be_made most (Err r) e = absurd cc

sound-cell : (p : Parser) (cell : CellDecl) → IsSound p → cell_kind p.cells cell.name ≡ None → HasFirst cell
    → length p.cells < 16 → p.commands ≡ None → p.parts ≡ [] → IsSound (record p { cells = p.cells ++ cell ∷ [] })
sound-cell p cell h new first few closed none =
    let no_names = rw closed at h.names in
    record {
      cells = omega (arith, length-append p.cells (cell ∷ []));
      distinct = AreDistinct-more p.cells cell h.distinct new;
      first = all-more HasFirst p.cells cell h.first first;
      parts = h.parts;
      few = h.few;
      ready = rw none tt;
      room = h.room;
      so_few = h.so_few;
      so_ready = rw closed tt;
      names = rw closed no_names;
    }

sound-worker : (p : Parser) (bound : Option Binding) → IsSound p → length p.parts < 8 → IsSound (after p lines.Worker bound)
unfolding after
sound-worker p bound h few = record {
  cells = h.cells;
  distinct = h.distinct;
  first = h.first;
  parts = h.parts;
  few = h.few;
  ready = h.ready;
  room = λ e. few;
  so_few = omega arith;
  so_ready = tt;
  names = refl;
}

sound-command : (p : Parser) (c : Command) (bound : Option Binding) → IsSound p → check p.cells p.names c ≡ Ok bound → are_within (command_values c) ≡ true
    → is_some p.commands ≡ true → length (commands_so_far p) < 4096 → IsSound (after p (lines.Command c) bound)
unfolding after
sound-command p c bound h checked within opened few =
    let checked_now = rw h.names at checked in
    let is : IsChecked p.cells (names_after p.cells [] (commands_so_far p)) c = record { bound = bound; checked = checked_now; within = within } in
    record {
      cells = h.cells;
      distinct = h.distinct;
      first = h.first;
      parts = h.parts;
      few = h.few;
      ready = h.ready;
      room = λ e. h.room opened;
      so_few = omega (arith, length-append (commands_so_far p) (c ∷ []));
      so_ready = AreReady-more p.cells [] (commands_so_far p) c h.so_ready is;
      names = rw (names_after-more p.cells [] (commands_so_far p) c bound checked_now, h.names) refl;
    }

sound-end : (p : Parser) (bound : Option Binding) → IsSound p → is_some p.commands ≡ true → IsSound (after p lines.End bound)
unfolding after
sound-end p bound h opened =
    let part : Part = record { commands = commands_so_far p } in
    record {
      cells = h.cells;
      distinct = h.distinct;
      first = h.first;
      parts = omega (arith, length-append p.parts (part ∷ []), h.room opened);
      few = all-more (λ q. length q.commands ≤ 4096) p.parts part h.few h.so_few;
      ready = all-more (λ q. AreReady p.cells [] q.commands) p.parts part h.ready h.so_ready;
      room = λ e. absurd cc;
      so_few = omega arith;
      so_ready = tt;
      names = refl;
    }

sound-after : (p : Parser) (is_last : Bool) (line : Line) (bound : Option Binding) → IsSound p → line_is_within line ≡ true → line_binding p line ≡ Ok bound
    → structure_ok p is_last line ≡ true → limits_ok p line bound ≡ true → IsSound (after p line bound)
unfolding structure_ok limits_ok after
sound-after p is_last (lines.Cell cell) bound h within binding structure limits =
    let b = bind_ok (checked_cell (version_of p) p.cells cell) (λ u. Ok None) bound binding in
    let c = cell_checked (version_of p) p.cells cell b.0 b.1 in
    let s = and_parts (is_in_place p (lines.Cell cell)) (not (is_last && leaves_open (lines.Cell cell))) structure in
    let t = and_parts (is_none p.commands) (length p.parts == 0) s.0 in
    let l = and_parts (ltb (length p.cells) 16 && is_short (most_of p) cell.values) (contents_fit (most_of p) cell) limits in
    let m = and_parts (ltb (length p.cells) 16) (is_short (most_of p) cell.values) l.0 in
    sound-cell p cell h (is_nothing (cell_kind p.cells cell.name) c.0)
    (record { first = begins_with_contents (version_of p) cell c.1; within = within; made = could_be_made (most_of p) (made cell.kind cell.values) l.1 }) (ltb-true (length p.cells) 16 m.0)
    (is_nothing p.commands t.0) (no_parts p.parts (eqb-true (length p.parts) 0 t.1))
sound-after p is_last lines.Worker bound h within binding structure limits = sound-worker p bound h (ltb-true (length p.parts) 8 limits)
sound-after p is_last (lines.Command c) bound h within binding structure limits =
    let s = and_parts (is_some p.commands) (not (is_last && true)) structure in
    let l = and_parts (ltb (length (commands_so_far p)) 4096 && may_publish (commands_so_far p) c && leb (length (with_bound p.names bound)) 32) (command_is_short (most_of p) c) limits in
    let m = and_parts (ltb (length (commands_so_far p)) 4096 && may_publish (commands_so_far p) c) (leb (length (with_bound p.names bound)) 32) l.0 in
    let n = and_parts (ltb (length (commands_so_far p)) 4096) (may_publish (commands_so_far p) c) m.0 in
    sound-command p c bound h binding within s.0 (ltb-true (length (commands_so_far p)) 4096 n.0)
sound-after p is_last lines.End bound h within binding structure limits =
    let s = and_parts (is_some p.commands) (not (is_last && false)) structure in
    sound-end p bound h s.0

-- ---- a line that is read

sound-judged : (p : Parser) (is_last : Bool) (line : Line) (bound b : Option Binding) → IsSound p → line_is_within line ≡ true → line_binding p line ≡ Ok bound
    → if_room p is_last line bound ≡ Ok b → IsSound (after p line b)
unfolding if_room
sound-judged p is_last line bound b h within binding e =
    let c = guard_ok (structure_ok p is_last line) Structure (cond (not (limits_ok p line bound)) (Err Limit) (Ok bound)) b e in
    let d = guard_ok (limits_ok p line bound) Limit (Ok bound) b c.1 in
    moved (λ (o : Option Binding). IsSound (after p line o)) bound b d.1 (sound-after p is_last line bound h within binding c.0 d.0)

sound-with_line : (p : Parser) (is_last : Bool) (line : Line) (next : Parser) → IsSound p → line_is_within line ≡ true → with_line p is_last line ≡ Ok next → IsSound next
unfolding with_line judgement
sound-with_line p is_last line next h within e =
    let b = bind_ok (line_binding p line >>= if_room p is_last line) (λ bound. Ok (after p line bound)) next e in
    let c = bind_ok (line_binding p line) (if_room p is_last line) b.0 b.1 in
    moved IsSound (after p line b.0) next b.2 (sound-judged p is_last line c.0 b.0 h within c.1 c.2)

sound-version : (p : Parser) (version : Version) → IsSound p → IsSound (record p { version = Some version })
sound-version p version h = record {
  cells = h.cells;
  distinct = h.distinct;
  first = h.first;
  parts = h.parts;
  few = h.few;
  ready = h.ready;
  room = h.room;
  so_few = h.so_few;
  so_ready = h.so_ready;
  names = h.names;
}

sound-header : (p : Parser) (version : Option Version) (next : Parser) → IsSound p → with_version p version ≡ Ok next → IsSound next
sound-header p None next h e = absurd cc
sound-header p (Some version) next h e = moved IsSound (record p { version = Some version }) next e (sound-version p version h)

sound-nothing : (p : Parser) (is_last : Bool) (next : Parser) → IsSound p → with_nothing p is_last ≡ Ok next → IsSound next
sound-nothing p is_last next h e = by_test (is_last && is_none p.version) (is_last && is_some p.commands) e
  where
    by_test : (s t : Bool) → cond s (Err Header) (cond t (Err Structure) (Ok p)) ≡ Ok next → IsSound next
    by_test true t is = absurd cc
    by_test false true is = absurd cc
    by_test false false is = moved IsSound p next is h

sound-significant : (p : Parser) (is_last : Bool) (line : List ℕ) (ws : List (List ℕ)) (next : Parser) → IsSound p → significant_line p is_last line ws ≡ Ok next → IsSound next
unfolding significant_line
sound-significant p is_last line ws next h e = by_tests (is_none p.version) (list_all is_allowed line) e
  where
    by_tests : (s t : Bool) → cond s (with_header p ws) (cond (not t) (Err Word) (line_of (version_of p) ws >>= with_line p is_last)) ≡ Ok next → IsSound next
    by_tests true t is = sound-header p (header_version ws) next h is
    by_tests false false is = absurd cc
    by_tests false true is = let b = bind_ok (line_of (version_of p) ws) (with_line p is_last) next is in sound-with_line p is_last b.0 next h (line_of-within (version_of p) ws b.0 b.1) b.2

sound-next : (p : Parser) (is_last : Bool) (line : List ℕ) (next : Parser) → IsSound p → next_line p is_last line ≡ Ok next → IsSound next
unfolding next_line
sound-next p is_last line next h e = by_test (is_passed_over (words line)) e
  where
    by_test : (t : Bool) → cond t (with_nothing p is_last) (significant_line p is_last line (words line)) ≡ Ok next → IsSound next
    by_test true is = sound-nothing p is_last next h is
    by_test false is = sound-significant p is_last line (words line) next h is

-- ---- the whole text

IsReady-script_of : (p : Parser) → IsSound p → IsReady (script_of p)
IsReady-script_of p h = record { cells = h.cells; distinct = h.distinct; first = h.first; parts = h.parts; few = h.few; ready = h.ready }

IsReady-read_lines : (p : Parser) (n : ℕ) (ls : List (List ℕ)) (s : Script) → IsSound p → read_lines p n ls ≡ Ok s → IsReady s
unfolding read_lines
IsReady-read_lines p n [] s h e = let same : script_of p ≡ s = cc in rw (← same) (IsReady-script_of p h)
IsReady-read_lines p n (line ∷ ls) s h e =
    by_judgement (next_line p (length ls == 0) line) (λ next is goes. IsReady-read_lines next (n + 1) ls s (sound-next p (length ls == 0) line next h is) goes) refl e
  where
    by_judgement : (r : Result Parser Code) → ((next : Parser) → next_line p (length ls == 0) line ≡ Ok next → read_lines next (n + 1) ls ≡ Ok s → IsReady s)
        → next_line p (length ls == 0) line ≡ r → (at_line n r >>= λ next. read_lines next (n + 1) ls) ≡ Ok s → IsReady s
    by_judgement (Ok next) on is goes = on next is goes
    by_judgement (Err c) on is goes = absurd cc

sound-start : IsSound start
sound-start = record {
  cells = omega arith;
  distinct = tt;
  first = tt;
  parts = omega arith;
  few = tt;
  ready = tt;
  room = λ e. absurd cc;
  so_few = omega arith;
  so_ready = tt;
  names = refl;
}

-- each script that bytes are can be run
pub IsReady-read_script : (bytes : List ℕ) (s : Script) → read_script bytes ≡ Ok s → IsReady s
IsReady-read_script bytes s e = IsReady-read_lines start 1 (script_lines bytes) s sound-start e
