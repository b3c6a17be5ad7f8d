-- The lines that are written for a parser are read as its script.
use Rattle.std.proofs.Common.{◌≡◌, ℕ, ◌+◌, Bool, true, false, List, [], ◌∷◌, map, length, Some, None, Result, Ok, refl, ap, sym, subst, ◌∙◌, arith}
use Rattle.std.specs.Prelude.{is_none, unwrap_or}
use Rattle.std.specs.List.{AllByRecursion}
use Rattle.std.proofs.lemmas.Bool.{ne_eqb}
use Rattle.plain_model.specs.declared.report.Script.{Script}
use Rattle.plain_model.specs.declared.report.Version.{Version}
use Rattle.plain_model.specs.declared.report.Version.TheVariants as versions
use Rattle.plain_model.specs.Text.{spaced}
use Rattle.script_line.specs.declared.line.Line.{Line}
use Rattle.script_line.specs.Codes.{◌>>=◌}
use Rattle.script_line.specs.Words.{words}
use Rattle.script_line.proofs.Judgements.{bind_ok, moved}
use Rattle.script.specs.declared.fault.ParseFault.{ParseFault}
use Rattle.script.specs.declared.parser.Parser.{Parser}
use Rattle.script.specs.Parser.{start, version_of, script_of, with_line, with_version, header_version, significant_line, next_line}
use Rattle.script.specs.Grammar.{at_line, read_lines}
use Rattle.script_line.proofs.WrittenWords.{AreWords, words-spaced}
use Rattle.script_line.proofs.WrittenLetters.{key_word}
use Rattle.script_line.specs.Written.{written_line}
use Rattle.script.proofs.Passes.{IsSaid, passes, passes_so, passes_last, said_again}
use Rattle.script.proofs.Traces.{replay, header_words, begun, version_next}

abbrev pub written : Line → List ℕ
written l = spaced (written_line l)

-- the n-th line, and those after it
abbrev from_line : ℕ → Bool → Parser → List ℕ → List (List ℕ) → Result Script ParseFault
from_line n is_last p bytes rest = at_line n (next_line p is_last bytes) >>= λ next. read_lines next (n + 1) rest

one : (p : Parser) (n : ℕ) (is_last : Bool) (bytes : List ℕ) (rest : List (List ℕ)) (next : Parser) → next_line p is_last bytes ≡ Ok next → from_line n is_last p bytes rest ≡ read_lines next (n + 1) rest
one p n is_last bytes rest next e = ap (λ r. at_line n r >>= λ q. read_lines q (n + 1) rest) e

pub only : (p : Parser) (n : ℕ) (bytes : List ℕ) → read_lines p n (bytes ∷ []) ≡ from_line n true p bytes []
unfolding read_lines
only p n bytes = refl

pub more : (p : Parser) (n : ℕ) (bytes next : List ℕ) (rest : List (List ℕ)) → read_lines p n (bytes ∷ next ∷ rest) ≡ from_line n false p bytes (next ∷ rest)
unfolding read_lines
more p n bytes next rest = ap (λ b. from_line n b p bytes (next ∷ rest)) (ne_eqb (length (next ∷ rest)) 0 (λ same. omega (arith, same)))

abbrev finished : Parser → Result Script ParseFault
finished p = Ok (script_of p)

pub none_left : (p : Parser) (n : ℕ) → read_lines p n [] ≡ Ok (script_of p)
unfolding read_lines
none_left p n = refl

has_version : (p : Parser) (v : Version) → p.version ≡ Some v → is_none p.version ≡ false
has_version p v e = ap is_none e

said_in : (p : Parser) (v : Version) (l : Line) → p.version ≡ Some v → IsSaid v l → IsSaid (version_of p) l
said_in p v l has is = subst (λ o. IsSaid (unwrap_or o versions.One) l) (sym has) is

pub reread : (ls : List Line) (p : Parser) (n : ℕ) (v : Version) (made : Parser) → p.version ≡ Some v → AllByRecursion (IsSaid v) ls → replay p ls ≡ Ok made → made.commands ≡ None
    → read_lines p n (map written ls) ≡ Ok (script_of made)
unfolding replay
reread [] p n v made has said e none = none_left p n ∙ moved (λ (q : Parser). finished p ≡ finished q) p made e refl
reread (l ∷ []) p n v made has said e none =
    let b = bind_ok (with_line p false l) (λ x. Ok x) made e in
    let step : with_line p false l ≡ Ok made = b.1 ∙ b.2 in
    let last : with_line p true l ≡ Ok made = passes_so p true l made (passes_last p l made (passes p false l made step) none) in
    only p n (written l) ∙ one p n true (written l) [] made (said_again p true l (has_version p v has) (said_in p v l has said.0) ∙ last) ∙ none_left made (n + 1)
reread (l ∷ m ∷ ms) p n v made has said e none =
    let b = bind_ok (with_line p false l) (λ x. replay x (m ∷ ms)) made e in
    let has_next : b.0.version ≡ Some v = version_next p false l b.0 (passes p false l b.0 b.1) ∙ has in
    more p n (written l) (written m) (map written ms) ∙ one p n false (written l) (map written (m ∷ ms)) b.0 (said_again p false l (has_version p v has) (said_in p v l has said.0) ∙ b.1)
    ∙ reread (m ∷ ms) b.0 (n + 1) v made has_next said.1 b.2 none

-- ---- the header

pub header_is_words : (v : Version) → AreWords (header_words v)
header_is_words versions.One = (key_word _ refl, (key_word _ refl, tt))
header_is_words versions.Two = (key_word _ refl, (key_word _ refl, tt))

header_by : (is_last : Bool) (bytes : List ℕ) (v : Version) → words bytes ≡ header_words v → header_version (header_words v) ≡ Some v → next_line start is_last bytes ≡ Ok (begun v)
unfolding next_line significant_line
header_by is_last bytes v split named = rw split (ap (with_version start) named)

header_names : (v : Version) → header_version (header_words v) ≡ Some v
header_names versions.One = refl
header_names versions.Two = refl

header_again : (is_last : Bool) (v : Version) → next_line start is_last (spaced (header_words v)) ≡ Ok (begun v)
header_again is_last v = header_by is_last (spaced (header_words v)) v (words-spaced (header_words v) (header_is_words v)) (header_names v)

pub header_read : (rest : List (List ℕ)) (v : Version) → read_lines start 1 (spaced (header_words v) ∷ rest) ≡ read_lines (begun v) 2 rest
header_read [] v = only start 1 (spaced (header_words v)) ∙ one start 1 true (spaced (header_words v)) [] (begun v) (header_again true v)
header_read (next ∷ rest) v =
    more start 1 (spaced (header_words v)) next rest ∙ one start 1 false (spaced (header_words v)) (next ∷ rest) (begun v) (header_again false v)
