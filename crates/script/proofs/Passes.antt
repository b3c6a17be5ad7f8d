-- What a line that is taken has passed, and that a line says the same again.
use Rattle.std.proofs.Common.{◌≡◌, ℕ, Bool, true, false, not, ◌&&◌, cond, List, [], ◌∷◌, Option, Some, None, Ok, Err, refl, sym, ap, ◌∙◌, arith}
use Rattle.std.specs.Prelude.{is_none, ◌==◌}
use Rattle.std.specs.List.{list_all}
use Rattle.std.proofs.lemmas.Bool.{and_parts, and_from, not-true, eqb-true}
use Rattle.std.proofs.lemmas.Bool.Decides.{nat_tests}
use Rattle.script_line.specs.declared.codes.Code.TheVariants.{Word, Structure, Limit}
use Rattle.script_line.specs.declared.line.Line.{Line}
use Rattle.script_line.specs.declared.line.Line.TheVariants as lines
use Rattle.script_line.specs.Words.{words}
use Rattle.script_line.specs.Lines.{line_of}
use Rattle.script_line.proofs.Judgements.{guard_ok, bind_ok, moved}
use Rattle.plain_model.specs.declared.report.Version.{Version}
use Rattle.plain_model.specs.Text.{spaced}
use Rattle.script.specs.declared.parser.Parser.{Parser}
use Rattle.script.specs.Symbols.{Binding}
use Rattle.script.specs.Parser.{version_of, line_binding, is_in_place, leaves_open, structure_ok, limits_ok, after, if_room, judgement, with_line, is_allowed, is_passed_over, significant_line, next_line}
use Rattle.script_line.proofs.WrittenWords.{is_shown, AreWords, words-spaced, spaced-shown}
use Rattle.script_line.proofs.WrittenLetters.{all_of}
use Rattle.script_line.proofs.ReadAgain.{Words, AreReadAgain}
use Rattle.script_line.specs.Written.{written_line}
use Rattle.script_line.proofs.WrittenLines.{comment_says_nothing}

-- a line that the words written for it say in a version
abbrev pub IsSaid : Version → Line → Type 0
IsSaid version l = AreReadAgain (line_of version) written_line l

pub record Passes (p : Parser) (is_last : Bool) (l : Line) (next : Parser) : Type 0 where
  pub bound : Option Binding
  pub binds : line_binding p l ≡ Ok bound
  pub structure : structure_ok p is_last l ≡ true
  pub limits : limits_ok p l bound ≡ true
  pub made : after p l bound ≡ next

pub passes : (p : Parser) (is_last : Bool) (l : Line) (next : Parser) → with_line p is_last l ≡ Ok next → Passes p is_last l next
unfolding with_line judgement if_room
passes p is_last l next e =
    let a = bind_ok (judgement p is_last l) (λ bound. Ok (after p l bound)) next e in
    let b = bind_ok (line_binding p l) (if_room p is_last l) a.0 a.1 in
    let c = guard_ok (structure_ok p is_last l) Structure (cond (not (limits_ok p l b.0)) (Err Limit) (Ok b.0)) a.0 b.2 in
    let d = guard_ok (limits_ok p l b.0) Limit (Ok b.0) a.0 c.1 in
    let same : after p l b.0 ≡ after p l a.0 = moved (λ (bound : Option Binding). after p l b.0 ≡ after p l bound) b.0 a.0 d.1 refl in
    let made : after p l a.0 ≡ next = moved (λ (q : Parser). after p l a.0 ≡ q) (after p l a.0) next a.2 refl in
    record { bound = b.0; binds = b.1; structure = c.0; limits = d.0; made = same ∙ made }

pub passes_so : (p : Parser) (is_last : Bool) (l : Line) (next : Parser) → Passes p is_last l next → with_line p is_last l ≡ Ok next
unfolding with_line judgement if_room
passes_so p is_last l next s = rw (s.binds, s.structure, s.limits, s.made) refl

-- ---- the last line

-- what may stand on the last line may stand before it
earlier : (p : Parser) (is_last : Bool) (l : Line) → structure_ok p is_last l ≡ true → structure_ok p false l ≡ true
unfolding structure_ok
earlier p is_last l e = and_from (is_in_place p l) true (and_parts (is_in_place p l) (not (is_last && leaves_open l)) e).0 refl

pub passes_earlier : (p : Parser) (is_last : Bool) (l : Line) (next : Parser) → Passes p is_last l next → Passes p false l next
passes_earlier p is_last l next s = record { bound = s.bound; binds = s.binds; structure = earlier p is_last l s.structure; limits = s.limits; made = s.made }

-- a line after which no part is open needs no other one
closes : (p : Parser) (l : Line) (bound : Option Binding) → (after p l bound).commands ≡ None → leaves_open l ≡ false
unfolding after
closes p (lines.Cell cell) bound e = refl
closes p lines.Worker bound e = absurd cc
closes p (lines.Command c) bound e = absurd cc
closes p lines.End bound e = refl

last_too : (p : Parser) (l : Line) → structure_ok p false l ≡ true → leaves_open l ≡ false → structure_ok p true l ≡ true
unfolding structure_ok
last_too p l e shut = rw shut e

pub passes_last : (p : Parser) (l : Line) (next : Parser) → Passes p false l next → next.commands ≡ None → Passes p true l next
passes_last p l next s none =
    let shut : leaves_open l ≡ false = closes p l s.bound (ap (λ (q : Parser). q.commands) s.made ∙ none) in
    record { bound = s.bound; binds = s.binds; structure = last_too p l s.structure shut; limits = s.limits; made = s.made }

-- a part that the last line may stand in is closed by it
closed : (p : Parser) (l : Line) (bound : Option Binding) → is_in_place p l ≡ true → leaves_open l ≡ false → (after p l bound).commands ≡ None
unfolding after
closed p (lines.Cell cell) bound e shut = none_of p.commands (and_parts (is_none p.commands) _ e).0
  where
    none_of : {A : Type 0} (o : Option A) → is_none o ≡ true → o ≡ None
    none_of None h = refl
    none_of (Some a) h = absurd cc
closed p lines.Worker bound e shut = absurd cc
closed p (lines.Command c) bound e shut = absurd cc
closed p lines.End bound e shut = refl

pub passes_closed : (p : Parser) (l : Line) (next : Parser) → Passes p true l next → next.commands ≡ None
unfolding structure_ok
passes_closed p l next s =
    let parts = and_parts (is_in_place p l) (not (true && leaves_open l)) s.structure in
    ap (λ (q : Parser). q.commands) (sym s.made) ∙ closed p l s.bound parts.0 (not-true (leaves_open l) parts.1)

-- ---- the bytes of a line

-- a line that says something is not passed over
not_passed_over : (version : Version) (ws : Words) (l : Line) → line_of version ws ≡ Ok l → is_passed_over ws ≡ false
not_passed_over version [] l e = absurd cc
not_passed_over version ([] ∷ ws) l e = refl
not_passed_over version ((b ∷ bs) ∷ ws) l e = by_test (b == 35) refl
  where
    by_test : (t : Bool) → (b == 35) ≡ t → t ≡ false
    by_test false is = refl
    by_test true is = let none : line_of version ((b ∷ bs) ∷ ws) ≡ Err Word = ap (λ c. line_of version ((c ∷ bs) ∷ ws)) (eqb-true b 35 is) ∙ comment_says_nothing version bs ws in absurd cc

shown_allowed : (b : ℕ) → is_shown b ≡ true → is_allowed b ≡ true
shown_allowed b e = grind (arith, nat_tests)

-- the words of a line may stand in one
pub words_allowed : (ws : Words) → AreWords ws → list_all is_allowed (spaced ws) ≡ true
words_allowed ws are = all_of is_shown is_allowed shown_allowed (spaced ws) (spaced-shown ws are)

said_by : (p : Parser) (is_last : Bool) (bytes : List ℕ) (ws : Words) (l : Line) → words bytes ≡ ws → is_passed_over ws ≡ false → is_none p.version ≡ false → list_all is_allowed bytes ≡ true → line_of (version_of p) ws ≡ Ok l
    → next_line p is_last bytes ≡ with_line p is_last l
unfolding next_line significant_line
said_by p is_last bytes ws l split says begun clean read = rw (split, says, begun, clean, read) refl

-- what is written for a line is judged as this line
pub said_again : (p : Parser) (is_last : Bool) (l : Line) → is_none p.version ≡ false → IsSaid (version_of p) l → next_line p is_last (spaced (written_line l)) ≡ with_line p is_last l
said_again p is_last l begun is =
    said_by p is_last (spaced (written_line l)) (written_line l) l (words-spaced (written_line l) is.words) (not_passed_over (version_of p) (written_line l) l is.again) begun (words_allowed (written_line l) is.words) is.again
