-- What is reached when a text is read to its end is made by its lines.
use Rattle.std.proofs.Common.{◌≡◌, ℕ, ◌+◌, ◌<◌, Bool, true, false, not, ◌&&◌, cond, List, [], ◌∷◌, length, Option, Some, None, Result, Ok, Err, ◌⊎◌, inl, inr, refl, sym, ap, subst, ◌∙◌, arith}
use Rattle.std.specs.Prelude.{is_some, is_none, unwrap_or}
use Rattle.std.specs.Prelude.{codes as bytes}
use Rattle.std.specs.List.{list_all}
use Rattle.plain_model.specs.declared.report.Script.{Script}
use Rattle.plain_model.specs.declared.report.Version.{Version}
use Rattle.plain_model.specs.declared.report.Version.TheVariants as versions
use Rattle.script_line.specs.declared.codes.Code.{Code}
use Rattle.script_line.specs.declared.codes.Code.TheVariants.{Header, Word, Structure}
use Rattle.script_line.specs.declared.line.Line.{Line}
use Rattle.script_line.specs.Codes.{◌>>=◌}
use Rattle.script_line.specs.Words.{words}
use Rattle.script_line.specs.Lines.{line_of}
use Rattle.script_line.proofs.Judgements.{guard_ok, bind_ok, moved}
use Rattle.script.specs.declared.fault.ParseFault.{ParseFault}
use Rattle.script.specs.declared.parser.Parser.{Parser}
use Rattle.script.specs.Parser.{start, script_of, with_line, is_allowed, is_passed_over, header_version, with_nothing, with_version, with_header, significant_line, next_line}
use Rattle.script.specs.Grammar.{at_line, read_lines}
use Rattle.script_line.proofs.ReadAgain.{Words}
use Rattle.script_line.proofs.WrittenLines.{line_of-again}
use Rattle.script.proofs.Passes.{IsSaid, passes, passes_closed}
use Rattle.script.proofs.Traces.{begun, replay, IsMade, made-more}
use Rattle.script.proofs.Rereading.{only, more, none_left}

-- ---- one line

-- what one line may do: nothing, the header, or a line
record IsLineOf (p : Parser) (is_last : Bool) (next : Parser) : Type 0 where
  version : Version
  has : p.version ≡ Some version
  line : Line
  words : Words
  read : line_of version words ≡ Ok line
  taken : with_line p is_last line ≡ Ok next

record IsHeaderOf (p next : Parser) : Type 0 where
  version : Version
  none : p.version ≡ None
  made : next ≡ record p { version = Some version }

record IsNothingOf (p : Parser) (is_last : Bool) (next : Parser) : Type 0 where
  nothing : with_nothing p is_last ≡ Ok next
  same : p ≡ next

nothing_of : (p : Parser) (is_last : Bool) (next : Parser) → with_nothing p is_last ≡ Ok next → p ≡ next
nothing_of p is_last next e = by_first (is_last && is_none p.version) e
  where
    by_second : (t : Bool) → cond t (Err Structure) (Ok p) ≡ Ok next → p ≡ next
    by_second true h = absurd cc
    by_second false h = moved (λ (q : Parser). p ≡ q) p next h refl

    by_first : (t : Bool) → cond t (Err Header) (cond (is_last && is_some p.commands) (Err Structure) (Ok p)) ≡ Ok next → p ≡ next
    by_first true h = absurd cc
    by_first false h = by_second (is_last && is_some p.commands) h

header_of : (p : Parser) (ws : Words) (next : Parser) → p.version ≡ None → with_header p ws ≡ Ok next → IsHeaderOf p next
header_of p ws next none e = by_version (header_version ws) refl e
  where
    by_version : (o : Option Version) → header_version ws ≡ o → with_version p o ≡ Ok next → IsHeaderOf p next
    by_version None is h = absurd cc
    by_version (Some v) is h = record { version = v; none = none; made = moved (λ (q : Parser). q ≡ record p { version = Some v }) (record p { version = Some v }) next h refl }

significant_of : (p : Parser) (is_last : Bool) (bytes : List ℕ) (ws : Words) (next : Parser) → significant_line p is_last bytes ws ≡ Ok next → IsHeaderOf p next ⊎ IsLineOf p is_last next
unfolding significant_line
significant_of p is_last bytes ws next e = by_version p.version refl e
  where
    by_version : (o : Option Version) → p.version ≡ o → cond (is_none o) (with_header p ws) (cond (not (list_all is_allowed bytes)) (Err Word) (line_of (unwrap_or o versions.One) ws >>= with_line p is_last)) ≡ Ok next
        → IsHeaderOf p next ⊎ IsLineOf p is_last next
    by_version None has h = inl (header_of p ws next has h)
    by_version (Some v) has h =
        let a = guard_ok (list_all is_allowed bytes) Word (line_of v ws >>= with_line p is_last) next h in
        let b = bind_ok (line_of v ws) (with_line p is_last) next a.1 in
        inr (record { version = v; has = has; line = b.0; words = ws; read = b.1; taken = b.2 })

line_did : (p : Parser) (is_last : Bool) (bytes : List ℕ) (next : Parser) → next_line p is_last bytes ≡ Ok next → IsNothingOf p is_last next ⊎ (IsHeaderOf p next ⊎ IsLineOf p is_last next)
unfolding next_line
line_did p is_last bytes next e = by_test (is_passed_over (words bytes)) e
  where
    by_test : (t : Bool) → cond t (with_nothing p is_last) (significant_line p is_last bytes (words bytes)) ≡ Ok next → IsNothingOf p is_last next ⊎ (IsHeaderOf p next ⊎ IsLineOf p is_last next)
    by_test true h = inl (record { nothing = h; same = nothing_of p is_last next h })
    by_test false h = inr (significant_of p is_last bytes (words bytes) next h)

-- ---- what is reached

-- no header yet, or made by its lines
abbrev IsReached : Parser → Type 0
IsReached p = (p ≡ start) ⊎ IsMade p

no_version : (p : Parser) (v : Version) → p ≡ start → p.version ≡ Some v → ⊥
no_version p v e has = let none : p.version ≡ None = ap (λ (q : Parser). q.version) e in cc

made_at_header : (p next : Parser) → p ≡ start → IsHeaderOf p next → IsMade next
unfolding replay
made_at_header p next e h =
    let is : begun h.version ≡ next = sym (h.made ∙ ap (λ (q : Parser). record q { version = Some h.version }) e) in
    subst IsMade is (record { version = h.version; has = refl; said = tt; made = refl })

after_header : (p next : Parser) → IsReached p → IsHeaderOf p next → IsMade next
after_header p next (inl e) h = made_at_header p next e h
after_header p next (inr m) h = let none = h.none in let has = m.has in absurd cc

some_same : (v w : Version) → Some v ≡ Some w → v ≡ w
some_same v w e = cc

after_line : (p : Parser) (is_last : Bool) (next : Parser) → IsReached p → IsLineOf p is_last next → IsMade next
after_line p is_last next (inl e) l = absurd (no_version p l.version e l.has)
after_line p is_last next (inr m) l =
    made-more p is_last l.line next m (subst (λ v. IsSaid v l.line) (some_same l.version m.version (sym l.has ∙ m.has)) (line_of-again l.version l.words l.line l.read)) (passes p is_last l.line next l.taken)

reached : (p : Parser) (is_last : Bool) (bytes : List ℕ) (next : Parser) → IsReached p → next_line p is_last bytes ≡ Ok next → IsReached next
reached p is_last bytes next r e =
    elim (line_did p is_last bytes next e) [
      | inl n ↦ subst IsReached n.same r
      | inr (inl h) ↦ inr (after_header p next r h)
      | inr (inr l) ↦ inr (after_line p is_last next r l)
    ]

-- ---- the last line

-- made by its lines, and no part is open
pub record IsEnded (p : Parser) : Type 0 where
  pub made : IsMade p
  pub closed : p.commands ≡ None

nothing_last : (p : Parser) (next : Parser) → IsReached p → with_nothing p true ≡ Ok next → p ≡ next → IsEnded next
nothing_last p next r e same = by_version (is_none p.version) refl e
  where
    made_of : IsReached p → is_none p.version ≡ false → IsMade p
    made_of (inl s) some = let none : p.version ≡ None = ap (λ (q : Parser). q.version) s in let other : is_none p.version ≡ true = ap is_none none in absurd cc
    made_of (inr m) some = m

    closed_of : {A : Type 0} (o : Option A) → is_some o ≡ false → o ≡ None
    closed_of None h = refl
    closed_of (Some cs) h = absurd cc

    by_commands : (t : Bool) → is_some p.commands ≡ t → is_none p.version ≡ false → cond t (Err Structure) (Ok p) ≡ Ok next → IsEnded next
    by_commands true is some h = absurd cc
    by_commands false is some h = subst IsEnded same (record { made = made_of r some; closed = closed_of p.commands is })

    by_version : (t : Bool) → is_none p.version ≡ t → cond t (Err Header) (cond (is_some p.commands) (Err Structure) (Ok p)) ≡ Ok next → IsEnded next
    by_version true is h = absurd cc
    by_version false is h = by_commands (is_some p.commands) refl is h

header_last : (p next : Parser) → IsReached p → IsHeaderOf p next → IsEnded next
header_last p next (inl e) h =
    let none : next.commands ≡ None = ap (λ (q : Parser). q.commands) h.made ∙ ap (λ (q : Parser). q.commands) e in
    record { made = made_at_header p next e h; closed = none }
header_last p next (inr m) h = let none = h.none in let has = m.has in absurd cc

line_last : (p next : Parser) → IsReached p → IsLineOf p true next → IsEnded next
line_last p next r l = record { made = after_line p true next r l; closed = passes_closed p l.line next (passes p true l.line next l.taken) }

ended : (p : Parser) (bytes : List ℕ) (next : Parser) → IsReached p → next_line p true bytes ≡ Ok next → IsEnded next
ended p bytes next r e =
    elim (line_did p true bytes next e) [
      | inl n ↦ nothing_last p next r n.nothing n.same
      | inr (inl h) ↦ header_last p next r h
      | inr (inr l) ↦ line_last p next r l
    ]

-- ---- all lines

pub record IsScriptOf (script : Script) : Type 0 where
  pub parser : Parser
  pub ended : IsEnded parser
  pub same : script_of parser ≡ script

taken : {A B E : Type 0} (r : Result A E) (f : A → Result B E) (b : B) → (r >>= f) ≡ Ok b → (a : A) × (r ≡ Ok a) × (f a ≡ Ok b)
taken (Ok a) f b e = (a, refl, e)
taken (Err x) f b e = absurd cc

at_line_ok : {A : Type 0} (n : ℕ) (r : Result A Code) (a : A) → at_line n r ≡ Ok a → r ≡ Ok a
at_line_ok {A} n (Ok b) a e = let same : b ≡ a = cc in ap (λ (x : A). Ok x) same
at_line_ok n (Err c) a e = absurd cc

abbrev done : Script → Result Script ParseFault
done script = Ok script

done_is : (s t : Script) → done s ≡ done t → s ≡ t
done_is s t e = cc

pub all_read : (texts : List (List ℕ)) (p : Parser) (n : ℕ) (script : Script) → 0 < length texts → IsReached p → read_lines p n texts ≡ Ok script → IsScriptOf script
all_read [] p n script some r e = absurd (omega arith)
all_read (bytes ∷ []) p n script some r e =
    let a = taken (at_line n (next_line p true bytes)) (λ next. read_lines next (n + 1) []) script (sym (only p n bytes) ∙ e) in
    let step = at_line_ok n (next_line p true bytes) a.0 a.1 in
    record { parser = a.0; ended = ended p bytes a.0 r step; same = done_is (script_of a.0) script (sym (none_left a.0 (n + 1)) ∙ a.2) }
all_read (bytes ∷ m ∷ ms) p n script some r e =
    let a = taken (at_line n (next_line p false bytes)) (λ next. read_lines next (n + 1) (m ∷ ms)) script (sym (more p n bytes m ms) ∙ e) in
    let step = at_line_ok n (next_line p false bytes) a.0 a.1 in
    all_read (m ∷ ms) a.0 (n + 1) script (omega arith) (reached p false bytes a.0 r step) a.2
