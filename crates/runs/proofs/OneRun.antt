-- What was done by one worker on one thread makes a lawful report.
use Rattle.std.proofs.Common.{◌≡◌, ℕ, zero, suc, ◌+◌, ◌<◌, ◌≤◌, Bool, true, false, eqb, cond, List, [], ◌∷◌, ◌++◌, length, get_or, set, None, Some, refl, ap, sym, subst, ◌∙◌, arith, append_assoc, eq-eqb, ne_eqb}
use Rattle.std.specs.Prelude.{Option, IfSome, if◌then◌else◌, map, filter, filter_map, slice_get, ◌==◌}
use Rattle.std.specs.List.{AllByRecursion, cons_option}
use Rattle.std.proofs.lemmas.List.{get_or-set_same, get_or-set_other}
use Rattle.plain_model.specs.declared.plain.Plain.{Plain}
use Rattle.plain_model.specs.declared.commands.PlainCall.TheVariants as calls
use Rattle.plain_model.specs.declared.history.Line.{Line}
use Rattle.plain_model.specs.declared.report.CellDecl.{CellDecl}
use Rattle.plain_model.specs.declared.report.CellReport.{CellReport}
use Rattle.plain_model.specs.declared.report.LocalLine.{LocalLine}
use Rattle.plain_model.specs.declared.report.Part.{Part}
use Rattle.plain_model.specs.declared.report.Script.{Script}
use Rattle.plain_model.specs.Cell.{after}
use Rattle.plain_model.specs.History.{FitsFrom, last_value, value_at, Whole, calls_of, numbered, Numbered}
use Rattle.plain_model.specs.Work.{Deed, calls_at, line_of, value_then, work_from}
use Rattle.plain_model.specs.Lawful.{Lawful, IsCellRun, HasWorked, IsWorkOf, parts_of}
use Rattle.plain_model.proofs.HistorySteps.{value_there, line_found}
use Rattle.plain_model.proofs.HistorySteps as steps
use Rattle.runs.specs.declared.cell_run.CellRun.{CellRun}
use Rattle.runs.specs.declared.one_thread.OneThread.{OneThread}
use Rattle.runs.specs.Notes.{Note, Connects, IsReported, lines_at}
use Rattle.runs.specs.Places.{decls_in}
use Rattle.runs.specs.Works.{MatchCalls, WorkIsDone}
use Rattle.runs.proofs.NotedLines.{lines_front, calls_at_lines}
use Rattle.runs.specs.OneThread.{IsEarlier, IsSoFar, GoesOnBy, report_of, AreSoFar, CallsOne}

-- ---- lists by index

any_default : {A : Type 0} (xs : List A) (i : ℕ) (d e : A) → i < length xs → get_or xs i d ≡ get_or xs i e
any_default [] i d e lt = absurd (omega arith)
any_default (x ∷ xs) zero d e lt = refl
any_default (x ∷ xs) (suc i) d e lt = any_default xs i d e (omega arith)

get_map : {A B : Type 0} (f : A → B) (xs : List A) (i : ℕ) (d : A) → i < length xs → slice_get (map f xs) i ≡ Some (f (get_or xs i d))
get_map f [] i d lt = absurd (omega arith)
get_map f (x ∷ xs) zero d lt = refl
get_map f (x ∷ xs) (suc i) d lt = get_map f xs i d (omega arith)

index_map : {A B : Type 0} (f : A → B) (xs : List A) (i : ℕ) (d : A) (e : B) → i < length xs → get_or (map f xs) i e ≡ f (get_or xs i d)
index_map f [] i d e lt = absurd (omega arith)
index_map f (x ∷ xs) zero d e lt = refl
index_map f (x ∷ xs) (suc i) d e lt = index_map f xs i d e (omega arith)

pub all_by_index : {A : Type 0} (P : A → Type 0) (xs : List A) → ((k : ℕ) (d : A) → k < length xs → P (get_or xs k d)) → AllByRecursion P xs
all_by_index P [] h = tt
all_by_index P (x ∷ xs) h = (h 0 x (omega arith), all_by_index P xs (λ k d lt. h (suc k) d (omega arith)))

pub by_index : {A : Type 0} (P : A → Type 0) (xs : List A) → AllByRecursion P xs → (k : ℕ) (d : A) → k < length xs → P (get_or xs k d)
by_index P [] all k d lt = absurd (omega arith)
by_index P (x ∷ xs) all zero d lt = all.0
by_index P (x ∷ xs) all (suc k) d lt = by_index P xs all.1 k d (omega arith)

all_map : {A B : Type 0} (f : A → B) (P : B → Type 0) (xs : List A) → AllByRecursion (λ a. P (f a)) xs → AllByRecursion P (map f xs)
all_map f P [] all = tt
all_map f P (x ∷ xs) all = (all.0, all_map f P xs all.1)

length_set : {A : Type 0} (xs : List A) (i : ℕ) (a : A) → length (set xs i a) ≡ length xs
length_set [] i a = refl
length_set (x ∷ xs) zero a = refl
length_set (x ∷ xs) (suc i) a = ap suc (length_set xs i a)

-- ---- a cell, call by call

-- a cell went on by these lines
pub record GoesOn (ls : List Line) (c d : CellRun) : Type 0 where
  pub lines : d.lines ≡ c.lines ++ ls
  pub decl : d.decl ≡ c.decl
  pub first : d.first ≡ c.first

stays : (c : CellRun) → GoesOn [] c c
stays c = record { lines = sym (append_nothing c.lines); decl = refl; first = refl }
  where
    append_nothing : (ls : List Line) → ls ++ [] ≡ ls
    append_nothing [] = refl
    append_nothing (l ∷ ls) = ap (λ xs. l ∷ xs) (append_nothing ls)

goes_further : (ls ms : List Line) (c d e : CellRun) → GoesOn ls c d → GoesOn ms d e → GoesOn (ls ++ ms) c e
goes_further ls ms c d e g h = record {
  lines = h.lines ∙ (ap (λ x. x ++ ms) g.lines ∙ append_assoc c.lines ls ms);
  decl = h.decl ∙ g.decl;
  first = h.first ∙ g.first;
}

-- one call is one line of its cell, and none of the others
step : (s t : OneThread) (n : Note) → CallsOne s n t → (k : ℕ) (d : CellRun) → k < length s.cells.items
    → GoesOn (lines_at k (n ∷ [])) (get_or s.cells.items k d) (get_or t.cells.items k d)
step s t n one k d lt = split (eqb n.place k) refl
  where
    split : (b : Bool) → eqb n.place k ≡ b → GoesOn (cons_option (if b then Some n.line else None) []) (get_or s.cells.items k d) (get_or t.cells.items k d)
    split true e =
        let same : n.place ≡ k = eqb-eq n.place k e in
        let old : one.before ≡ get_or s.cells.items k d = one.at ∙ (any_default s.cells.items n.place one.before d one.within ∙ ap (λ i. get_or s.cells.items i d) same) in
        let new : get_or t.cells.items k d ≡ one.after = ap (λ xs. get_or xs k d) one.cells ∙ (ap (λ i. get_or (set s.cells.items n.place one.after) i d) (sym same) ∙ get_or-set_same s.cells.items n.place one.after d one.within) in
        let g : GoesOn (n.line ∷ []) one.before one.after = record { lines = one.goes_on.lines; decl = one.goes_on.decl; first = one.goes_on.first } in
        subst (λ x. GoesOn (n.line ∷ []) x (get_or t.cells.items k d)) old (subst (λ x. GoesOn (n.line ∷ []) one.before x) (sym new) g)
      where
        eqb-eq : (a b : ℕ) → eqb a b ≡ true → a ≡ b
        eqb-eq a b e = grind arith
    split false e =
        let other : get_or t.cells.items k d ≡ get_or s.cells.items k d = ap (λ xs. get_or xs k d) one.cells ∙ get_or-set_other s.cells.items n.place k one.after d (λ (same : k ≡ n.place). not_same n.place k e (sym same)) in
        subst (λ x. GoesOn [] (get_or s.cells.items k d) x) (sym other) (stays (get_or s.cells.items k d))
      where
        not_same : (a b : ℕ) → eqb a b ≡ false → a ≡ b → ⊥
        not_same a b e same = clash (eqb a b) (eq-eqb a b same) e
          where
            clash : (x : Bool) → x ≡ true → x ≡ false → ⊥
            clash x t f = cc

count_kept : (s t : OneThread) (n : Note) → CallsOne s n t → length t.cells.items ≡ length s.cells.items
count_kept s t n one = ap length one.cells ∙ length_set s.cells.items n.place one.after

pub grow : (ns : List Note) (s t : OneThread) → Connects CallsOne s ns t → (k : ℕ) (d : CellRun) → k < length s.cells.items
    → GoesOn (lines_at k ns) (get_or s.cells.items k d) (get_or t.cells.items k d) × (length t.cells.items ≡ length s.cells.items)
grow [] s t same k d lt = (subst (λ (x : OneThread). GoesOn [] (get_or s.cells.items k d) (get_or x.cells.items k d)) (sym same) (stays (get_or s.cells.items k d)), ap (λ (x : OneThread). length x.cells.items) same)
grow (n ∷ ns) s t h k d lt =
    let kept = count_kept s h.0 n h.1 in
    let on = grow ns h.0 t h.2 k d (omega arith) in (
      subst (λ ls. GoesOn ls (get_or s.cells.items k d) (get_or t.cells.items k d)) (sym (lines_front k n ns))
          (goes_further (lines_at k (n ∷ [])) (lines_at k ns) (get_or s.cells.items k d) (get_or h.0.cells.items k d) (get_or t.cells.items k d) (step s h.0 n h.1 k d lt) on.0),
      on.1 ∙ kept,
    )

-- ---- what is declared stays

decls_set : (xs : List CellRun) (i : ℕ) (a b : CellRun) → i < length xs → b ≡ get_or xs i b → a.decl ≡ b.decl → map (λ c. c.decl) (set xs i a) ≡ map (λ c. c.decl) xs
decls_set [] i a b lt at same = refl
decls_set (x ∷ xs) zero a b lt at same = ap (λ (y : CellDecl). y ∷ map (λ c. c.decl) xs) (same ∙ ap (λ (c : CellRun). c.decl) at)
decls_set (x ∷ xs) (suc i) a b lt at same = ap (λ (ys : List CellDecl). x.decl ∷ ys) (decls_set xs i a b (omega arith) at same)

decls_kept : (ns : List Note) (s t : OneThread) → Connects CallsOne s ns t → map (λ c. c.decl) t.cells.items ≡ map (λ c. c.decl) s.cells.items
decls_kept [] s t same = ap (λ (x : OneThread). map (λ c. c.decl) x.cells.items) same
decls_kept (n ∷ ns) s t h =
    let one = h.1 in
    decls_kept ns h.0 t h.2 ∙ (ap (map (λ (c : CellRun). c.decl)) one.cells ∙ decls_set s.cells.items n.place one.after one.before one.within one.at one.goes_on.decl)

-- ---- the lines of calls are reported

plain_earlier : (o : ℕ) (h : List Line) → AllByRecursion (IsEarlier o) h → AllByRecursion (steps.IsEarlier o) h
plain_earlier o [] all = tt
plain_earlier o (l ∷ h) all = (all.0.ordinal, plain_earlier o h all.1)

reported : (s u t : OneThread) (n : Note) (ns : List Note) (o : ℕ) → CallsOne s n u → Connects CallsOne u ns t → AreSoFar t o → IsReported 1 (map report_of t.cells.items) n
reported s u t n ns o one rest far =
    let k = n.place in
    let kept = count_kept s u n one in
    let g = grow ns u t rest k one.before (let w = one.within in omega arith) in
    let within : k < length t.cells.items = let w = one.within in let e = g.1 in omega arith in
    let c = get_or t.cells.items k one.before in
    let now : get_or u.cells.items k one.before ≡ one.after = ap (λ xs. get_or xs k one.before) one.cells ∙ get_or-set_same s.cells.items k one.after one.before one.within in
    let on : GoesOn (lines_at k ns) one.after c = subst (λ x. GoesOn (lines_at k ns) x c) now g.0 in
    let whole : c.lines ≡ one.before.lines ++ n.line ∷ lines_at k ns =
    on.lines ∙ (ap (λ x. x ++ lines_at k ns) one.goes_on.lines ∙ append_assoc one.before.lines (n.line ∷ []) (lines_at k ns)) in
    let first : c.first ≡ one.before.first = on.first ∙ one.goes_on.first in
    let is = far.each k one.before within in
    record {
      report = report_of c;
      at = get_map report_of t.cells.items k one.before within;
      line = ap (line_of 1 n.line.ordinal) whole ∙ line_found 1 n.line.ordinal one.before.lines n.line (lines_at k ns) (plain_earlier n.line.ordinal one.before.lines one.so_far.earlier) one.caller refl;
      value = value_read n.value one.read
          (ap (λ p. value_at p c.lines n.line.position) first ∙ (ap (λ h. value_at one.before.first h n.line.position) whole
          ∙ value_there one.before.first 0 one.before.lines n.line (lines_at k ns) (subst (λ h. FitsFrom one.before.first 0 h) whole (subst (λ p. FitsFrom p 0 c.lines) first is.fits))));
    }
  where
    value_read : (v : Option Plain) → IfSome v (λ p. (p ≡ one.before.value) × (n.line.call ≡ calls.Read))
        → {w : Plain} → w ≡ after n.line.call (last_value one.before.first one.before.lines) → IfSome v (λ p. w ≡ p)
    value_read None read e = tt
    value_read (Some p) read e =
        e ∙ (ap (λ call. after call (last_value one.before.first one.before.lines)) read.1 ∙ (sym one.so_far.value ∙ sym read.0))

all_reported : (ns : List Note) (s t : OneThread) (o : ℕ) → Connects CallsOne s ns t → AreSoFar t o → AllByRecursion (IsReported 1 (map report_of t.cells.items)) ns
all_reported [] s t o h far = tt
all_reported (n ∷ ns) s t o h far = (reported s h.0 t n ns o h.1 h.2 far, all_reported ns h.0 t o h.2 far)

-- ---- the report

of_one : (o : ℕ) (h : List Line) → AllByRecursion (IsEarlier o) h → AllByRecursion (λ l. (1 ≤ l.caller) × (l.caller ≤ 1)) h
of_one o [] all = tt
of_one o (l ∷ h) all = (let e = all.0.caller in (omega arith, omega arith), of_one o h all.1)

is_cell_run : (o : ℕ) (c : CellRun) → IsSoFar o c → IsCellRun 1 (report_of c)
is_cell_run o c s = record {
  first = s.first;
  legal = record { steps = s.fits; order = s.order; probes = s.probes };
  callers = of_one o c.lines s.earlier;
  last = s.value;
}

-- the calls of the worker are all calls
calls_of_one : (o : ℕ) (h : List Line) → AllByRecursion (IsEarlier o) h → calls_of 1 h ≡ map numbered h
calls_of_one o [] all = refl
calls_of_one o (l ∷ h) all =
    ap (λ b. map numbered (cond b (l ∷ filter (λ x. eqb x.caller 1) h) (filter (λ x. eqb x.caller 1) h))) (eq-eqb l.caller 1 all.0.caller)
    ∙ ap (λ (xs : List Numbered). numbered l ∷ xs) (calls_of_one o h all.1)

cells_reported : (cells : List CellRun) → map (λ c. c.cell) (map report_of cells) ≡ map (λ c. c.decl) cells
cells_reported [] = refl
cells_reported (c ∷ cells) = ap (λ (ds : List CellDecl). c.decl ∷ ds) (cells_reported cells)

-- the report of what was done
pub run_is_lawful : (script : Script) (s t : OneThread) (o : ℕ) (lines : List LocalLine) → map (λ c. c.decl) s.cells.items ≡ script.cells → AllByRecursion (λ c. c.lines ≡ []) s.cells.items → AreSoFar t o
    → WorkIsDone CallsOne script.cells (parts_of 1 1 script.parts) s t lines → Lawful script 1 (record { workers = 1; cells = map report_of t.cells.items; locals = lines ∷ [] })
run_is_lawful script s t o lines declared empty far w = record {
  workers = refl;
  cells = decls;
  runs = all_map report_of (IsCellRun 1) t.cells.items (all_by_index (λ c. IsCellRun 1 (report_of c)) t.cells.items (λ k d lt. is_cell_run o (get_or t.cells.items k d) (far.each k d lt)));
  one_list_per_worker = refl;
  works = works;
}
  where
    reports : List CellReport
    reports = map report_of t.cells.items

    declared_now : map (λ c. c.decl) t.cells.items ≡ script.cells
    declared_now = decls_kept w.notes s t w.connects ∙ declared

    decls : map (λ c. c.cell) reports ≡ script.cells
    decls = cells_reported t.cells.items ∙ declared_now

    whole : (k : ℕ) (d : CellRun) → k < length t.cells.items → Whole (calls_at (get_or t.cells.items k d).decl.name w.deeds) 1 (get_or t.cells.items k d).lines
    whole k d lt =
        let c = get_or t.cells.items k d in
        let kept = counts w.notes s t w.connects in
        let old : k < length s.cells.items = omega arith in
        let g = grow w.notes s t w.connects k d old in
        let none : (get_or s.cells.items k d).lines ≡ [] = by_index (λ c. c.lines ≡ []) s.cells.items empty k d old in
        let its : c.lines ≡ lines_at k w.notes = g.0.lines ∙ ap (λ x. x ++ lines_at k w.notes) none in
        let at : get_or script.cells k c.decl ≡ c.decl = ap (λ ds. get_or ds k c.decl) (sym declared_now) ∙ index_map (λ (x : CellRun). x.decl) t.cells.items k d c.decl lt in
        let many : k < length script.cells = let e = ap length declared_now in let f = length_map (λ (x : CellRun). x.decl) t.cells.items in omega arith in
        calls_of_one o c.lines (far.each k d lt).earlier ∙ (ap (map numbered) its ∙ (calls_at_lines k w.notes ∙ (sym (w.calls k c.decl many) ∙ ap (λ (x : CellDecl). calls_at x.name w.deeds) at)))
      where
        counts : (ns : List Note) (s t : OneThread) → Connects CallsOne s ns t → length t.cells.items ≡ length s.cells.items
        counts [] s t same = ap (λ (x : OneThread). length x.cells.items) same
        counts (n ∷ ns) s t h = counts ns h.0 t h.2 ∙ count_kept s h.0 n h.1

        length_map : {A B : Type 0} (f : A → B) (xs : List A) → length (map f xs) ≡ length xs
        length_map f [] = refl
        length_map f (x ∷ xs) = ap suc (length_map f xs)

    works : (k : ℕ) → k < 1 → HasWorked (k + 1) (work_from reports (k + 1) 1 (parts_of (k + 1) 1 script.parts)) reports (slice_get (lines ∷ []) k)
    works zero h =
        let all : work_from reports 1 1 (parts_of 1 1 script.parts) ≡ Some w.deeds =
        w.done 1 reports decls (all_reported w.notes s t o w.connects far) in
        subst (λ d. HasWorked 1 d reports (Some lines)) (sym all)
        (record { lines = sym w.lines; calls = all_map report_of (λ c. Whole (calls_at c.cell.name w.deeds) 1 c.lines) t.cells.items (all_by_index (λ c. Whole (calls_at c.decl.name w.deeds) 1 c.lines) t.cells.items whole) })
    works (suc k) h = absurd (omega arith)
