-- What the first version takes, the last one takes too.
use Rattle.std.proofs.Common.{◌≡◌, ◌≤◌, ℕ, Bool, true, false, not, ◌&&◌, leb, ltb, List, [], ◌∷◌, length, Option, Some, None, Result, Ok, Err, refl, ap, ◌∙◌, arith}
use Rattle.std.specs.List.{AllByRecursion}
use Rattle.std.proofs.lemmas.Bool.{and_parts, and_from, leb-true, le-leb}
use Rattle.plain_model.specs.declared.history.Refusal.{Refusal}
use Rattle.plain_model.specs.declared.plain.Plain.{Plain}
use Rattle.plain_model.specs.declared.plain.Values.{Values}
use Rattle.plain_model.specs.declared.plain.Values.TheVariants as values
use Rattle.plain_model.specs.declared.report.Version.{Version}
use Rattle.plain_model.specs.declared.report.Version.TheVariants as versions
use Rattle.plain_model.specs.Plain.{count, made}
use Rattle.script_line.specs.declared.line.Line.{Line}
use Rattle.script_line.specs.declared.line.Line.TheVariants as lines
use Rattle.script_line.specs.Codes.{◌>>=◌}
use Rattle.script_line.specs.Lines.{command_values}
use Rattle.script_line.specs.Written.{written_line}
use Rattle.script_line.proofs.Judgements.{bind_ok, moved}
use Rattle.script_line.proofs.WrittenLines.{line_too}
use Rattle.script.specs.declared.parser.Parser.{Parser}
use Rattle.script.specs.Symbols.{Binding, with_bound}
use Rattle.script.specs.Limits.{seq_limit, is_short, are_short, command_is_short, few_enough, contents_fit, may_publish}
use Rattle.script.specs.Parser.{version_of, most_of, commands_so_far, checked_cell, line_binding, is_in_place, leaves_open, structure_ok, limits_ok, after, with_line}
use Rattle.script.proofs.Cells.{cell_checked_too}
use Rattle.script.proofs.Passes.{IsSaid, Passes, passes, passes_so}
use Rattle.script.proofs.Traces.{trace, begun, replay, IsMade}

abbrev pub in_last_version : Parser → Parser
in_last_version p = record p { version = Some versions.Two }

-- ---- limits

at_most : (v : Version) → seq_limit v ≤ 65536
at_most versions.One = omega arith
at_most versions.Two = omega arith

more : (n most : ℕ) → most ≤ 65536 → leb n most ≡ true → leb n 65536 ≡ true
more n most le e = let few : n ≤ most = leb-true n most e in le-leb n 65536 (omega (arith, le, few))

short_too : (most : ℕ) (vs : Values) → most ≤ 65536 → is_short most vs ≡ true → is_short 65536 vs ≡ true
short_too most (values.Seq first n) le e = more n most le e
short_too most (values.List xs) le e = refl
short_too most (values.Pairs ps) le e = refl
short_too most values.Unset le e = refl

are_short_too : (most : ℕ) (o : Option Values) → most ≤ 65536 → are_short most o ≡ true → are_short 65536 o ≡ true
are_short_too most None le e = refl
are_short_too most (Some vs) le e = short_too most vs le e

few_too : (most : ℕ) (r : Result Plain Refusal) → most ≤ 65536 → few_enough most r ≡ true → few_enough 65536 r ≡ true
few_too most (Ok p) le e = more (count p.values) most le e
few_too most (Err r) le e = absurd cc

limits_too : (p : Parser) (l : Line) (bound : Option Binding) → limits_ok p l bound ≡ true → limits_ok (in_last_version p) l bound ≡ true
unfolding limits_ok command_is_short
limits_too p (lines.Cell cell) bound e =
    let most : ℕ = most_of p in
    let a = and_parts (ltb (length p.cells) 16 && is_short most cell.values) (contents_fit most cell) e in
    let b = and_parts (ltb (length p.cells) 16) (is_short most cell.values) a.0 in
    let le : most ≤ 65536 = at_most (version_of p) in
    and_from (ltb (length p.cells) 16 && is_short 65536 cell.values) (contents_fit 65536 cell)
    (and_from (ltb (length p.cells) 16) (is_short 65536 cell.values) b.0 (short_too most cell.values le b.1)) (few_too most (made cell.kind cell.values) le a.1)
limits_too p lines.Worker bound e = e
limits_too p (lines.Command c) bound e =
    let most : ℕ = most_of p in
    let room : Bool = ltb (length (commands_so_far p)) 4096 && may_publish (commands_so_far p) c && leb (length (with_bound p.names bound)) 32 in
    let a = and_parts room (command_is_short most c) e in
    and_from room (command_is_short 65536 c) a.0 (are_short_too most (command_values c) (at_most (version_of p)) a.1)
limits_too p lines.End bound e = refl

-- ---- lines

binds_too : (p : Parser) (l : Line) (bound : Option Binding) → line_binding p l ≡ Ok bound → line_binding (in_last_version p) l ≡ Ok bound
binds_too p (lines.Cell cell) bound e =
    let b = bind_ok (checked_cell (version_of p) p.cells cell) (λ u. Ok None) bound e in
    ap (λ r. r >>= λ u. Ok None) (cell_checked_too (version_of p) p.cells cell b.0 b.1) ∙ b.2
binds_too p lines.Worker bound e = e
binds_too p (lines.Command c) bound e = e
binds_too p lines.End bound e = e

in_place_too : (p : Parser) (l : Line) → is_in_place (in_last_version p) l ≡ is_in_place p l
in_place_too p (lines.Cell cell) = refl
in_place_too p lines.Worker = refl
in_place_too p (lines.Command c) = refl
in_place_too p lines.End = refl

structure_too : (p : Parser) (is_last : Bool) (l : Line) → structure_ok (in_last_version p) is_last l ≡ structure_ok p is_last l
unfolding structure_ok
structure_too p is_last l = ap (λ b. b && not (is_last && leaves_open l)) (in_place_too p l)

after_too : (p : Parser) (l : Line) (bound : Option Binding) → after (in_last_version p) l bound ≡ in_last_version (after p l bound)
unfolding after
after_too p (lines.Cell cell) bound = refl
after_too p lines.Worker bound = refl
after_too p (lines.Command c) bound = refl
after_too p lines.End bound = refl

passes_too : (p : Parser) (is_last : Bool) (l : Line) (next : Parser) → Passes p is_last l next → Passes (in_last_version p) is_last l (in_last_version next)
passes_too p is_last l next s = record {
  bound = s.bound;
  binds = binds_too p l s.bound s.binds;
  structure = structure_too p is_last l ∙ s.structure;
  limits = limits_too p l s.bound s.limits;
  made = after_too p l s.bound ∙ ap in_last_version s.made;
}

replay_too : (ls : List Line) (p made : Parser) → replay p ls ≡ Ok made → replay (in_last_version p) ls ≡ Ok (in_last_version made)
unfolding replay
replay_too [] p made e = moved (λ (q : Parser). replay (in_last_version p) [] ≡ Ok (in_last_version q)) p made e refl
replay_too (l ∷ ls) p made e =
    let b = bind_ok (with_line p false l) (λ x. replay x ls) made e in
    let step : with_line (in_last_version p) false l ≡ Ok (in_last_version b.0) =
    passes_so (in_last_version p) false l (in_last_version b.0) (passes_too p false l b.0 (passes p false l b.0 b.1)) in
    ap (λ r. r >>= λ x. replay x ls) step ∙ replay_too ls b.0 made b.2

-- ---- what is made by its lines

said_too : (version : Version) (l : Line) → IsSaid version l → IsSaid versions.Two l
said_too version l is = record { words = is.words; again = line_too version (written_line l) l is.again }

all_said_too : (version : Version) (ls : List Line) → AllByRecursion (IsSaid version) ls → AllByRecursion (IsSaid versions.Two) ls
all_said_too version [] said = tt
all_said_too version (l ∷ ls) said = (said_too version l said.0, all_said_too version ls said.1)

pub made_in_last_version : (p : Parser) → IsMade p → IsMade (in_last_version p)
made_in_last_version p m = record { version = versions.Two; has = refl; said = all_said_too m.version (trace p) m.said; made = replay_too (trace p) (begun m.version) p m.made }
