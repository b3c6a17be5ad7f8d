-- Reading the lines one after another.
use Rattle.std.proofs.Common.{◌≡◌, ℕ, ◌+◌, ◌<◌, Bool, List, [], ◌∷◌, length, Option, Some, None, Result, Ok, Err, refl, sym, ◌∙◌, arith}
use Rattle.std.specs.Prelude.{◌==◌}
use Rattle.std.specs.List.{position}
use Rattle.std.specs.Str.Lines.{lines}
use Rattle.std.proofs.lemmas.Bool.{ne_eqb}
use Rattle.plain_model.specs.declared.report.Script.{Script}
use Rattle.script_line.specs.declared.codes.Code.{Code}
use Rattle.script.specs.declared.fault.ParseFault.{ParseFault}
use Rattle.script.specs.declared.parser.Parser.{Parser}
use Rattle.script.specs.Lines.{script_lines}
use Rattle.script_line.specs.Codes.{◌>>=◌, rank}
use Rattle.script.specs.Parser.{next_line, script_of}
use Rattle.script.specs.Grammar.{at_line, read_lines}
use Rattle.script.proofs.FirstLines.{ends_line, first_of_lines_at, only_line, no_feed}

-- every text has a line
pub a_line : (bytes : List ℕ) → 0 < length (script_lines bytes)
a_line bytes = by_position (position ends_line bytes) refl
  where
    by_position : (o : Option ℕ) → position ends_line bytes ≡ o → 0 < length (script_lines bytes)
    by_position (Some end) e = rw (first_of_lines_at bytes end e) (omega arith)
    by_position None e = rw (only_line bytes (no_feed bytes e)) (omega arith)

-- this line is the last one exactly where nothing follows it
pub last_line : (others : List ℕ) → (length (lines others) == 0) ≡ (length others == 0)
last_line [] = refl
last_line (b ∷ bs) = rw (ne_eqb (length (lines (b ∷ bs))) 0 (λ e. omega (arith, a_line (b ∷ bs), e)), ne_eqb (length (b ∷ bs)) 0 (λ e. omega (arith, e))) refl

-- where something follows a line, it is a text of its own
pub lines_again : (others : List ℕ) → 0 < length others → lines others ≡ script_lines others
lines_again [] h = absurd (omega arith)
lines_again (b ∷ bs) h = refl

-- the first line is read, and then the others
pub one_line : (p : Parser) (n : ℕ) (bytes line others : List ℕ) → script_lines bytes ≡ line ∷ lines others
    → read_lines p n (script_lines bytes) ≡ (at_line n (next_line p (length others == 0) line) >>= (λ next. read_lines next (n + 1) (lines others)))
unfolding read_lines
one_line p n bytes line others e = rw (e, last_line others) refl

-- `all` is the reading of the whole text: it fails with a line that is refused,
pub reading-fails : (p : Parser) (n : ℕ) (bytes line others : List ℕ) (is_last : Bool) (code : Code) (all : Result Script ParseFault) → script_lines bytes ≡ line ∷ lines others → is_last ≡ (length others == 0)
    → next_line p is_last line ≡ Err code → read_lines p n (script_lines bytes) ≡ all → all ≡ Err (record { line = n; code = rank code })
reading-fails p n bytes line others is_last code all split last refused so_far =
    let one : read_lines p n (script_lines bytes) ≡ Err (record { line = n; code = rank code }) = one_line p n bytes line others split ∙ rw (← last, refused) refl in
    sym so_far ∙ one

-- goes on after a line that is taken,
pub reading-goes : (p next : Parser) (n : ℕ) (bytes line others : List ℕ) (is_last : Bool) (all : Result Script ParseFault) → script_lines bytes ≡ line ∷ lines others → is_last ≡ (length others == 0)
    → next_line p is_last line ≡ Ok next → read_lines p n (script_lines bytes) ≡ all → read_lines next (n + 1) (lines others) ≡ all
reading-goes p next n bytes line others is_last all split last taken so_far =
    let one : read_lines p n (script_lines bytes) ≡ read_lines next (n + 1) (lines others) = one_line p n bytes line others split ∙ rw (← last, taken) refl in
    sym one ∙ so_far

-- and ends where nothing is left
pub reading-ends : (next : Parser) (n : ℕ) (others : List ℕ) (all : Result Script ParseFault) → length others ≡ 0 → read_lines next n (lines others) ≡ all → all ≡ Ok (script_of next)
unfolding read_lines
reading-ends next n [] all e so_far = sym so_far
reading-ends next n (b ∷ bs) all e so_far = absurd (omega arith)
