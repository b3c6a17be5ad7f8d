-- The commands of a part, and the parts, one after another.
use Rattle.std.proofs.Common.{◌≡◌, ℕ, zero, suc, ◌+◌, ◌<◌, ◌≤◌, Bool, true, false, List, [], ◌∷◌, ◌++◌, length, take, get_or, None, Some, refl, ap, sym, subst, ◌∙◌, arith, append_assoc}
use Rattle.std.specs.Prelude.{◌%◌, ◌==◌, if◌then◌else◌, Option, option_map, map, filter_map, slice_index_or}
use Rattle.std.specs.List.{AllByRecursion, cons_option}
use Rattle.std.proofs.lemmas.List.{append-nil, length-take-le, take_more}
use Rattle.plain_model.specs.declared.commands.Command.{Command}
use Rattle.plain_model.specs.declared.report.CellDecl.{CellDecl}
use Rattle.plain_model.specs.declared.report.CellReport.{CellReport}
use Rattle.plain_model.specs.declared.report.LocalLine.{LocalLine}
use Rattle.plain_model.specs.declared.report.Part.{Part}
use Rattle.plain_model.specs.Lawful.{parts_from, parts_of}
use Rattle.plain_model.specs.Locals.{◌>>=◌, Locals, no_locals}
use Rattle.plain_model.specs.Work.{Deed, as_local_line, call_at, deed_of, deeds_of, work_from, local_lines, calls_at}
use Rattle.runs.specs.declared.work.Worker.{Worker}
use Rattle.runs.specs.Places.{decls_in}
use Rattle.runs.specs.Notes.{Note, Connects, note_at, notes_at, IsReported}
use Rattle.runs.specs.Needs.{Leaves, CanDoAll}
use Rattle.runs.specs.Works.{MatchCalls, IsDone, PartIsDone, WorkIsDone, ordinal_after, commands_for}

filter_map_append : {A B : Type 0} (f : A → Option B) (xs ys : List A) → filter_map f (xs ++ ys) ≡ filter_map f xs ++ filter_map f ys
filter_map_append f [] ys = refl
filter_map_append f (x ∷ xs) ys = more (f x) (filter_map_append f xs ys)
  where
    more : (o : Option _) → filter_map f (xs ++ ys) ≡ filter_map f xs ++ filter_map f ys → cons_option o (filter_map f (xs ++ ys)) ≡ cons_option o (filter_map f xs) ++ filter_map f ys
    more None e = e
    more (Some z) e = ap (λ zs. z ∷ zs) e

match_append : (decls : List CellDecl) (ds es : List Deed) (ns ms : List Note) → MatchCalls decls ds ns → MatchCalls decls es ms → MatchCalls decls (ds ++ es) (ns ++ ms)
match_append decls ds es ns ms one two k d lt =
    let name = (slice_index_or decls k d).name in
    filter_map_append (call_at name) ds es ∙ (ap (λ x. x ++ calls_at name es) (one k d lt) ∙ (ap (λ x. notes_at k ns ++ x) (two k d lt) ∙ sym (filter_map_append (note_at k) ns ms)))

connects_append : {S : Type 0} (makes : S → Note → S → Type 0) (s t u : S) (ns ms : List Note) → Connects makes s ns t → Connects makes t ms u → Connects makes s (ns ++ ms) u
connects_append makes s t u [] ms is rest = subst (λ x. Connects makes x ms u) is rest
connects_append makes s t u (n ∷ ns) ms h rest = (h.0, h.1, connects_append makes h.0 t u ns ms h.2 rest)

all_left : (P : Note → Type 0) (ns ms : List Note) → AllByRecursion P (ns ++ ms) → AllByRecursion P ns
all_left P [] ms all = tt
all_left P (n ∷ ns) ms all = (all.0, all_left P ns ms all.1)

all_right : (P : Note → Type 0) (ns ms : List Note) → AllByRecursion P (ns ++ ms) → AllByRecursion P ms
all_right P [] ms all = all
all_right P (n ∷ ns) ms all = all_right P ns ms all.1

local_append : (ls ls' ls'' : List LocalLine) (ds es : List Deed) → ls' ≡ ls ++ local_lines ds → ls'' ≡ ls' ++ local_lines es → ls'' ≡ ls ++ local_lines (ds ++ es)
local_append ls ls' ls'' ds es one two =
    two ∙ (ap (λ x. x ++ local_lines es) one ∙ (append_assoc ls (local_lines ds) (local_lines es) ∙ ap (λ x. ls ++ x) (sym (filter_map_append as_local_line ds es))))

in_front : (ds : List Deed) (d : Deed) (found : Option (List Deed)) → option_map (λ es. ds ++ es) (option_map (λ es. d ∷ es) found) ≡ option_map (λ es. (ds ++ d ∷ []) ++ es) found
in_front ds d None = refl
in_front ds d (Some es) = ap Some (sym (append_assoc ds (d ∷ []) es))

nothing_before : (found : Option (List Deed)) → found ≡ option_map (λ es. [] ++ es) found
nothing_before None = refl
nothing_before (Some es) = refl

-- the commands of a part in front of the rest were done
pub record InPart {S : Type 0} (makes : S → Note → S → Type 0) (decls : List CellDecl) (o : ℕ) (cs rest : List Command) (s : S) (ls : List LocalLine) (next : ℕ) (s' : S) (w : Worker) : Type 0 where
  pub notes : List Note
  pub deeds : List Deed
  pub connects : Connects makes s notes s'
  pub lines : w.lines ≡ ls ++ local_lines deeds
  pub calls : MatchCalls decls deeds notes
  pub can : CanDoAll decls rest w.names
  pub left : (n : ℕ) (reports : List CellReport) → decls_in reports ≡ decls → AllByRecursion (IsReported n reports) notes
      → deeds_of reports n o cs no_locals ≡ option_map (λ es. deeds ++ es) (deeds_of reports n next rest w.names)

module _ {S : Type 0} (makes : S → Note → S → Type 0) (decls : List CellDecl) (o : ℕ) (cs : List Command) (s : S) (lines : List LocalLine) where
  pub part_begins : (w : Worker) → w.names ≡ no_locals → w.lines ≡ lines → CanDoAll decls cs no_locals → InPart makes decls o cs cs s lines o s w
  part_begins w names same can = record {
    notes = [];
    deeds = [];
    connects = refl;
    lines = same ∙ sym (append-nil lines);
    calls = λ k d lt. refl;
    can = subst (CanDoAll decls cs) (sym names) can;
    left = λ n reports at stands. nothing_before (deeds_of reports n o cs no_locals) ∙ ap (λ m. option_map (λ es. [] ++ es) (deeds_of reports n o cs m)) (sym names);
  }

  pub part_goes_on : (c : Command) (rest : List Command) (next : ℕ) (w w' : Worker) (t t' : S)
      → InPart makes decls o cs (c ∷ rest) s lines next t w → IsDone makes decls next c t w t' w' → InPart makes decls o cs rest s lines (next + 1) t' w'
  part_goes_on c rest next w w' t t' p d = record {
    notes = p.notes ++ d.notes;
    deeds = p.deeds ++ d.deed ∷ [];
    connects = connects_append makes s t t' p.notes d.notes p.connects d.connects;
    lines = local_append lines w.lines w'.lines p.deeds (d.deed ∷ []) p.lines d.lines;
    calls = match_append decls p.deeds (d.deed ∷ []) p.notes d.notes p.calls d.calls;
    can = p.can.1 w'.names d.leaves;
    left = λ n reports at stands.
        p.left n reports at (all_left (IsReported n reports) p.notes d.notes stands)
        ∙ (ap (λ x. option_map (λ es. p.deeds ++ es) (x >>= λ y. option_map (λ ds. y.deed ∷ ds) (deeds_of reports n (next + 1) rest y.after)))
        (d.done n reports at (all_right (IsReported n reports) p.notes d.notes stands))
        ∙ in_front p.deeds d.deed (deeds_of reports n (next + 1) rest w'.names));
  }

  pub part_ends : (next : ℕ) (t : S) (w : Worker) → InPart makes decls o cs [] s lines next t w → PartIsDone makes decls o cs s lines t w.lines
  part_ends next t w p = record {
    notes = p.notes;
    deeds = p.deeds;
    connects = p.connects;
    lines = p.lines;
    calls = p.calls;
    done = λ n reports at stands. p.left n reports at stands ∙ ap Some (append-nil p.deeds);
  }

-- the work of parts, with one part more
work_on : (reports : List CellReport) (w o : ℕ) (ps : List (List Command)) (p : List Command) (ds es : List Deed) → work_from reports w o ps ≡ Some ds
    → deeds_of reports w (ordinal_after o ps) p no_locals ≡ Some es → work_from reports w o (ps ++ p ∷ []) ≡ Some (ds ++ es)
work_on reports w o [] p ds es before is =
    ap (λ d. d >>= λ fs. option_map (λ gs. fs ++ gs) (Some [])) is ∙ ap Some (append-nil es) ∙ ap (λ fs. Some (fs ++ es)) (nothing ds before)
  where
    nothing : (ds : List Deed) → Some [] ≡ Some ds → [] ≡ ds
    nothing ds e = cc
work_on reports w o (q ∷ ps) p ds es before is = by (deeds_of reports w o q no_locals) (work_from reports w (o + length q) ps) refl before (λ fs b. work_on reports w (o + length q) ps p fs es b is)
  where
    by : (first : Option (List Deed)) (rest : Option (List Deed)) → work_from reports w (o + length q) ps ≡ rest → (first >>= λ fs. option_map (λ gs. fs ++ gs) rest) ≡ Some ds
        → ((fs : List Deed) → work_from reports w (o + length q) ps ≡ Some fs → work_from reports w (o + length q) (ps ++ p ∷ []) ≡ Some (fs ++ es))
        → (first >>= λ fs. option_map (λ gs. fs ++ gs) (work_from reports w (o + length q) (ps ++ p ∷ []))) ≡ Some (ds ++ es)
    by None rest at before more = cc
    by (Some fs) None at before more = cc
    by (Some fs) (Some gs) at before more =
        ap (option_map (λ hs. fs ++ hs)) (more gs at) ∙ ap Some (sym (append_assoc fs gs es)) ∙ ap (λ hs. Some (hs ++ es)) (whole (fs ++ gs) before)
      where
        whole : (hs : List Deed) → Some hs ≡ Some ds → hs ≡ ds
        whole hs e = cc

module _ {S : Type 0} (makes : S → Note → S → Type 0) (decls : List CellDecl) (s : S) where
  pub work_begins : WorkIsDone makes decls [] s s []
  work_begins = record { notes = []; deeds = []; connects = refl; lines = refl; calls = λ k d lt. refl; done = λ n reports at stands. refl }

  pub work_goes_on : (ps : List (List Command)) (p : List Command) (t u : S) (ls ls' : List LocalLine) (o : ℕ) → o ≡ ordinal_after 1 ps → WorkIsDone makes decls ps s t ls → PartIsDone makes decls o p t ls u ls'
      → WorkIsDone makes decls (ps ++ p ∷ []) s u ls'
  work_goes_on ps p t u ls ls' o next g d = record {
    notes = g.notes ++ d.notes;
    deeds = g.deeds ++ d.deeds;
    connects = connects_append makes s t u g.notes d.notes g.connects d.connects;
    lines = local_append [] ls ls' g.deeds d.deeds g.lines d.lines;
    calls = match_append decls g.deeds d.deeds g.notes d.notes g.calls d.calls;
    done = λ n reports at stands.
        work_on reports n 1 ps p g.deeds d.deeds (g.done n reports at (all_left (IsReported n reports) g.notes d.notes stands))
        (ap (λ k. deeds_of reports n k p no_locals) (sym next) ∙ d.done n reports at (all_right (IsReported n reports) g.notes d.notes stands));
  }

pub after_on : (o : ℕ) (ps : List (List Command)) (p : List Command) → ordinal_after o (ps ++ p ∷ []) ≡ ordinal_after o ps + length p
after_on o [] p = refl
after_on o (q ∷ ps) p = after_on (o + length q) ps p

-- an element of a list has what all have
pub at_index : {A : Type 0} (P : A → Type 0) (xs : List A) (i : ℕ) (d : A) → AllByRecursion P xs → i < length xs → P (get_or xs i d)
at_index P [] i d all within = absurd (omega arith)
at_index P (x ∷ xs) zero d all within = all.0
at_index P (x ∷ xs) (suc i) d all within = at_index P xs i d all.1 (omega arith)

-- ---- the parts of one worker among all

-- the parts from the number i on, where those of other workers have no commands
abbrev pub parts_for : ℕ → ℕ → ℕ → List Part → List (List Command)
parts_for w n i [] = []
parts_for w n i (p ∷ ps) = commands_for w n i p ∷ parts_for w n (i + 1) ps

parts_on : (w n i : ℕ) (ps : List Part) (p : Part) → parts_for w n i (ps ++ p ∷ []) ≡ parts_for w n i ps ++ commands_for w n (i + length ps) p ∷ []
parts_on w n i [] p = let at : i ≡ i + 0 = omega arith in ap (λ j. commands_for w n j p ∷ []) at
parts_on w n i (q ∷ ps) p =
    let at : i + 1 + length ps ≡ i + suc (length ps) = omega arith in
    ap (λ cs. commands_for w n i q ∷ cs) (parts_on w n (i + 1) ps p ∙ ap (λ j. parts_for w n (i + 1) ps ++ commands_for w n j p ∷ []) at)

-- the first parts, with the next one
pub parts_more : (w n place i : ℕ) (ps : List Part) (p : Part) → i < length ps → p ≡ get_or ps i p → place ≡ i + 1
    → parts_for w n 1 (take (i + 1) ps) ≡ parts_for w n 1 (take i ps) ++ commands_for w n place p ∷ []
parts_more w n place i ps p within is at =
    let many : length (take i ps) ≡ i = length-take-le i ps (omega arith) in
    let here : 1 + length (take i ps) ≡ place = omega arith in
    ap (parts_for w n 1) (take_more ps i p within ∙ ap (λ (q : Part). take i ps ++ q ∷ []) (sym is))
    ∙ (parts_on w n 1 (take i ps) p ∙ ap (λ j. parts_for w n 1 (take i ps) ++ commands_for w n j p ∷ []) here)

-- a worker has no more commands of a part than there are
pub few_for : (w n i : ℕ) (p : Part) (many : ℕ) → length p.commands ≤ many → length (commands_for w n i p) ≤ many
few_for w n i p many few = split (i % n == w % n)
  where
    split : (b : Bool) → length (if b then p.commands else []) ≤ many
    split true = few
    split false = omega arith

-- what can be done of a part whose commands can be done
pub can_for : (decls : List CellDecl) (w n i : ℕ) (p : Part) → CanDoAll decls p.commands no_locals → CanDoAll decls (commands_for w n i p) no_locals
can_for decls w n i p can = split (i % n == w % n)
  where
    split : (b : Bool) → CanDoAll decls (if b then p.commands else []) no_locals
    split true = can
    split false = tt

-- parts without commands come to nothing
work_for : (reports : List CellReport) (k w n i o : ℕ) (ps : List Part) → work_from reports k o (parts_for w n i ps) ≡ work_from reports k o (parts_from w n i ps)
work_for reports k w n i o [] = refl
work_for reports k w n i o (p ∷ ps) = split (i % n == w % n) (λ j. work_for reports k w n (i + 1) j ps)
  where
    split : (b : Bool) → ((j : ℕ) → work_from reports k j (parts_for w n (i + 1) ps) ≡ work_from reports k j (parts_from w n (i + 1) ps))
        → work_from reports k o ((if b then p.commands else []) ∷ parts_for w n (i + 1) ps)
        ≡ work_from reports k o (if b then p.commands ∷ parts_from w n (i + 1) ps else parts_from w n (i + 1) ps)
    split true on = ap (λ rest. deeds_of reports k o p.commands no_locals >>= λ ds. option_map (λ es. ds ++ es) rest) (on (o + length p.commands))
    split false on =
        let same : o + 0 ≡ o = omega arith in
        sym (nothing_before (work_from reports k (o + 0) (parts_for w n (i + 1) ps))) ∙ (ap (λ j. work_from reports k j (parts_for w n (i + 1) ps)) same ∙ on o)

-- so the work is that of the worker's parts
pub work_ends : {S : Type 0} (makes : S → Note → S → Type 0) (decls : List CellDecl) (w n : ℕ) (ps : List Part) (s t : S) (ls : List LocalLine)
    → WorkIsDone makes decls (parts_for w n 1 ps) s t ls → WorkIsDone makes decls (parts_of w n ps) s t ls
work_ends makes decls w n ps s t ls d = record {
  notes = d.notes;
  deeds = d.deeds;
  connects = d.connects;
  lines = d.lines;
  calls = d.calls;
  done = λ k reports at stands. sym (work_for reports k w n 1 1 ps) ∙ d.done k reports at stands;
}
