-- What a worker's calls leave in its passes and logs.
use Rattle.std.proofs.Common.{◌≡◌, ◌≢◌, ℕ, zero, suc, ◌+◌, ◌<◌, Bool, true, false, eqb, List, [], ◌∷◌, ◌++◌, length, get_or, None, Some, refl, ap, sym, subst, ◌∙◌, arith, append_assoc, eq-eqb}
use Rattle.std.specs.Prelude.{find, map, slice_index_or, if◌then◌else◌}
use Rattle.std.specs.List.{AllByRecursion, cons_option}
use Rattle.std.proofs.lemmas.List.{append-nil, length-map, length-set, get_or_default, get_or-set_same, get_or-set_other}
use Rattle.std.proofs.lemmas.Bool.Decides.{nat_tests}
use Rattle.plain_model.specs.declared.commands.Command.{Command}
use Rattle.plain_model.specs.declared.history.Line.{Line}
use Rattle.plain_model.specs.declared.report.CellDecl.{CellDecl}
use Rattle.plain_model.specs.declared.report.LocalLine.{LocalLine}
use Rattle.plain_model.specs.History.{numbered}
use Rattle.version_slots.specs.Histories.{StartsWith}
use Rattle.interlocked.specs.Known.{Known}
use Rattle.history_merge.proofs.Found.{found_behind}
use Rattle.history_merge.proofs.Growing.{all_more}
use Rattle.runs.specs.Notes.{Note, Connects, lines_at}
use Rattle.runs.specs.Works.{WorkIsDone}
use Rattle.runs.proofs.NotedLines.{calls_at_lines}
use Rattle.seats.specs.Seats.{Seated, IsLineOf, CallsAt}
use Rattle.seats.specs.Logs.{IsLogged}
use Rattle.seats.specs.Worked.{IsReady, IsNoted, IsWorked}
use Rattle.seats.proofs.Logs.{log_begins, log_front, read_later}

at_place : {A : Type 0} (xs : List A) (k : ℕ) → k < length xs → A
at_place [] k lt = absurd (omega arith)
at_place (x ∷ xs) zero lt = x
at_place (x ∷ xs) (suc k) lt = at_place xs k (omega arith)

-- each cell has a pass and a log, whose lines are of calls up to the last one
pub record IsKept (s : Seated) : Type 0 where
  pub passes : length s.passes ≡ length s.cells
  pub logs : length s.logs ≡ length s.cells
  pub earlier : (k : ℕ) → k < length s.cells → AllByRecursion (λ l. l.ordinal < s.last + 1) (slice_index_or s.logs k [])

-- ---- one call

earlier_later : (m n : ℕ) (ls : List Line) → m < n → AllByRecursion (λ l. l.ordinal < m + 1) ls → AllByRecursion (λ l. l.ordinal < n) ls
earlier_later m n [] lt all = tt
earlier_later m n (l ∷ ls) lt all = (let e = all.0 in omega arith, earlier_later m n ls lt all.1)

module _ (s u : Seated) (n : Note) (c : CallsAt s n u) where
  cells_same : u.cells ≡ s.cells
  cells_same = ap (λ (v : Seated). v.cells) c.next

  last_is : u.last ≡ n.line.ordinal
  last_is = ap (λ (v : Seated). v.last) c.next

  module _ (kept : IsKept s) where
    in_passes : n.place < length s.passes
    in_passes = let a = c.within in let b = kept.passes in omega arith

    in_logs : n.place < length s.logs
    in_logs = let a = c.within in let b = kept.logs in omega arith

    old_pass : (p : Known) → c.before ≡ slice_index_or s.passes n.place p
    old_pass p = c.pass_at ∙ get_or_default s.passes n.place c.before p in_passes

    new_pass : (q : Known) → slice_index_or u.passes n.place q ≡ c.after
    new_pass q = ap (λ (v : Seated). slice_index_or v.passes n.place q) c.next ∙ get_or-set_same s.passes n.place c.after q in_passes

    old_log : c.log ≡ slice_index_or s.logs n.place []
    old_log = c.log_at ∙ get_or_default s.logs n.place c.log [] in_logs

    new_log : slice_index_or u.logs n.place [] ≡ slice_index_or s.logs n.place [] ++ n.line ∷ []
    new_log = ap (λ (v : Seated). slice_index_or v.logs n.place []) c.next ∙ (get_or-set_same s.logs n.place (c.log ++ n.line ∷ []) [] in_logs ∙ ap (λ ls. ls ++ n.line ∷ []) old_log)

    other_pass : (k : ℕ) (q : Known) → k ≢ n.place → slice_index_or u.passes k q ≡ slice_index_or s.passes k q
    other_pass k q ne = ap (λ (v : Seated). slice_index_or v.passes k q) c.next ∙ get_or-set_other s.passes n.place k c.after q ne

    other_log : (k : ℕ) → k ≢ n.place → slice_index_or u.logs k [] ≡ slice_index_or s.logs k []
    other_log k ne = ap (λ (v : Seated). slice_index_or v.logs k []) c.next ∙ get_or-set_other s.logs n.place k (c.log ++ n.line ∷ []) [] ne

    earlier_here : AllByRecursion (λ l. l.ordinal < n.line.ordinal) (slice_index_or s.logs n.place [])
    earlier_here = earlier_later s.last n.line.ordinal (slice_index_or s.logs n.place []) c.above (kept.earlier n.place c.within)

    pub keeps : IsKept u
    keeps = record {
      passes = ap (λ (v : Seated). length v.passes) c.next ∙ (length-set s.passes n.place c.after ∙ (kept.passes ∙ ap length (sym cells_same)));
      logs = ap (λ (v : Seated). length v.logs) c.next ∙ (length-set s.logs n.place (c.log ++ n.line ∷ []) ∙ (kept.logs ∙ ap length (sym cells_same)));
      earlier = λ k lt. subst (λ m. AllByRecursion (λ l. l.ordinal < m + 1) (slice_index_or u.logs k [])) (sym last_is) (by k (subst (λ m. k < m) (ap length cells_same) lt) (eqb k n.place) refl);
    }
      where
        by : (k : ℕ) → k < length s.cells → (b : Bool) → eqb k n.place ≡ b → AllByRecursion (λ l. l.ordinal < n.line.ordinal + 1) (slice_index_or u.logs k [])
        by k lt true is =
            let same : k ≡ n.place = grind (arith, nat_tests) in
            subst (λ j. AllByRecursion (λ l. l.ordinal < n.line.ordinal + 1) (slice_index_or u.logs j [])) (sym same)
            (subst (AllByRecursion (λ l. l.ordinal < n.line.ordinal + 1)) (sym new_log)
            (all_more (λ l. l.ordinal < n.line.ordinal + 1) (slice_index_or s.logs n.place []) n.line (earlier_later s.last (n.line.ordinal + 1) (slice_index_or s.logs n.place []) (let a = c.above in omega arith) (kept.earlier n.place c.within)) (omega arith)))
        by k lt false is =
            let ne : k ≢ n.place = λ same. differ (eqb k n.place) (eq-eqb k n.place same) is in
            subst (AllByRecursion (λ l. l.ordinal < n.line.ordinal + 1)) (sym (other_log k ne))
            (earlier_later s.last (n.line.ordinal + 1) (slice_index_or s.logs k []) (let a = c.above in omega arith) (kept.earlier k lt))
          where
            differ : (b : Bool) → b ≡ true → b ≡ false → ⊥
            differ b x y = cc

-- ---- the log of one cell

-- the log of a cell grew by these lines, and its pass made their calls
pub record LogsAt (k : ℕ) (s : Seated) (lines : List Line) (t : Seated) (p q : Known) : Type 0 where
  pub grown : slice_index_or t.logs k [] ≡ slice_index_or s.logs k [] ++ lines
  pub logged : IsLogged (slice_index_or s.passes k p) (slice_index_or t.passes k q) lines
  pub above : AllByRecursion (λ l. s.last < l.ordinal) lines

all_above : (m n : ℕ) (ls : List Line) → m < n → AllByRecursion (λ l. n < l.ordinal) ls → AllByRecursion (λ l. m < l.ordinal) ls
all_above m n [] lt all = tt
all_above m n (l ∷ ls) lt all = (let e = all.0 in omega arith, all_above m n ls lt all.1)

differ : (b : Bool) → b ≡ true → b ≡ false → ⊥
differ b x y = cc

module _ (k : ℕ) (s u t : Seated) (n : Note) (c : CallsAt s n u) (kept : IsKept s) (p q : Known) (lines : List Line) (rest : LogsAt k u lines t p q) where
  -- the call was on this cell
  line_here : n.place ≡ k → LogsAt k s (n.line ∷ lines) t p q
  line_here here =
      let higher : AllByRecursion (λ l. n.line.ordinal < l.ordinal) lines = subst (λ m. AllByRecursion (λ l. m < l.ordinal) lines) (last_is s u n c) rest.above in
      let after : slice_index_or u.passes k p ≡ c.after = ap (λ j. slice_index_or u.passes j p) (sym here) ∙ new_pass s u n c kept p in
      let before : c.before ≡ slice_index_or s.passes k p = old_pass s u n c kept p ∙ ap (λ j. slice_index_or s.passes j p) here in
      let log : slice_index_or u.logs k [] ≡ slice_index_or s.logs k [] ++ n.line ∷ [] =
      ap (λ j. slice_index_or u.logs j []) (sym here) ∙ (new_log s u n c kept ∙ ap (λ j. slice_index_or s.logs j [] ++ n.line ∷ []) here) in
      record {
        grown = rest.grown ∙ (ap (λ ls. ls ++ lines) log ∙ append_assoc (slice_index_or s.logs k []) (n.line ∷ []) lines);
        logged = log_front (slice_index_or s.passes k p) c.after (slice_index_or t.passes k q) n.line n.value lines (subst (λ (x : Known). IsLineOf x c.after n.line n.value) before c.line)
            (subst (λ (x : Known). IsLogged x (slice_index_or t.passes k q) lines) after rest.logged) higher;
        above = (c.above, all_above s.last n.line.ordinal lines c.above higher);
      }

  -- or on another one
  line_elsewhere : k ≢ n.place → LogsAt k s lines t p q
  line_elsewhere other = record {
    grown = rest.grown ∙ ap (λ ls. ls ++ lines) (other_log s u n c kept k other);
    logged = subst (λ (x : Known). IsLogged x (slice_index_or t.passes k q) lines) (other_pass s u n c kept k p other) rest.logged;
    above = all_above s.last u.last lines (subst (λ m. s.last < m) (sym (last_is s u n c)) c.above) rest.above;
  }

-- the log of each cell after the calls, and what its pass did
pub logs_of : (k : ℕ) (ns : List Note) (s t : Seated) → IsKept s → Connects CallsAt s ns t → k < length s.cells → (p q : Known) → LogsAt k s (lines_at k ns) t p q
logs_of k [] s t kept is within p q = record {
  grown = ap (λ (v : Seated). slice_index_or v.logs k []) is ∙ sym (append-nil (slice_index_or s.logs k []));
  logged = subst (λ (x : Known). IsLogged (slice_index_or s.passes k p) x []) (same ∙ ap (λ (v : Seated). slice_index_or v.passes k q) (sym is)) (log_begins (slice_index_or s.passes k p));
  above = tt;
}
  where
    same : slice_index_or s.passes k p ≡ slice_index_or s.passes k q
    same = get_or_default s.passes k p q (let e = kept.passes in omega arith)
logs_of k (n ∷ ns) s t kept h within p q =
    let u = h.0 in
    let c = h.1 in
    let rest = logs_of k ns u t (keeps s u n c kept) h.2 (subst (λ m. k < m) (ap length (sym (cells_same s u n c))) within) p q in
    by u c rest (eqb n.place k) refl
  where
    by : (u : Seated) (c : CallsAt s n u) → LogsAt k u (lines_at k ns) t p q → (b : Bool) → eqb n.place k ≡ b → LogsAt k s (cons_option (if b then Some n.line else None) (lines_at k ns)) t p q
    by u c rest true is = line_here k s u t n c kept p q (lines_at k ns) rest (let e : n.place ≡ k = grind (arith, nat_tests) in e)
    by u c rest false is = line_elsewhere k s u t n c kept p q (lines_at k ns) rest (λ same. differ (eqb n.place k) (eq-eqb n.place k (sym same)) is)

-- ---- all notes

cells_kept : (ns : List Note) (s t : Seated) → Connects CallsAt s ns t → t.cells ≡ s.cells
cells_kept [] s t is = ap (λ (v : Seated). v.cells) is
cells_kept (n ∷ ns) s t h = cells_kept ns h.0 t h.2 ∙ cells_same s h.0 n h.1

kept_after : (ns : List Note) (s t : Seated) → IsKept s → Connects CallsAt s ns t → IsKept t
kept_after [] s t kept is = subst IsKept (sym is) kept
kept_after (n ∷ ns) s t kept h = kept_after ns h.0 t (keeps s h.0 n h.1 kept) h.2

-- the line of a call is found, and its value shown, whatever calls come after it
noted_one : (ns : List Note) (s u t : Seated) (n : Note) → IsKept s → (c : CallsAt s n u) → Connects CallsAt u ns t → IsNoted t n
noted_one ns s u t n kept c h =
    let within : n.place < length u.cells = subst (λ m. n.place < m) (ap length (sym (cells_same s u n c))) c.within in
    let k = n.place in
    let at = λ (q : Known). logs_of k ns u t (keeps s u n c kept) h within q q in
    let log : slice_index_or t.logs k [] ≡ slice_index_or s.logs k [] ++ n.line ∷ lines_at k ns =
    (at c.after).grown ∙ (ap (λ ls. ls ++ lines_at k ns) (new_log s u n c kept) ∙ append_assoc (slice_index_or s.logs k []) (n.line ∷ []) (lines_at k ns)) in
    record {
      place = subst (λ m. k < m) (ap length (sym (cells_kept ns u t h))) within;
      line = ap (find (λ (l : Line). eqb l.ordinal n.line.ordinal)) log ∙ found_behind n.line.ordinal (slice_index_or s.logs k []) n.line (lines_at k ns) (earlier_here s u n c kept) refl;
      value = λ q. read_later (slice_index_or t.passes k q).view.seen c.after.view.seen
          (subst (λ (x : Known). StartsWith (slice_index_or t.passes k q).view.seen x.view.seen) (new_pass s u n c kept q) (at q).logged.later.seen) n.line.position n.value c.line.value;
    }

all_noted : (ns : List Note) (s t : Seated) → IsKept s → Connects CallsAt s ns t → AllByRecursion (IsNoted t) ns
all_noted [] s t kept is = tt
all_noted (n ∷ ns) s t kept h = (noted_one ns s h.0 t n kept h.1 h.2, all_noted ns h.0 t (keeps s h.0 n h.1 kept) h.2)

-- ---- the worker

-- an empty log at each place
empty_at : (logs : List (List Line)) → AllByRecursion (λ log. log ≡ []) logs → (k : ℕ) → slice_index_or logs k [] ≡ []
empty_at [] all k = refl
empty_at (log ∷ logs) all zero = all.0
empty_at (log ∷ logs) all (suc k) = empty_at logs all.1 k

-- what the calls of a worker come to, which made none before
pub worked : (decls : List CellDecl) (parts : List (List Command)) (s t : Seated) (lines : List LocalLine) → IsReady decls s → WorkIsDone CallsAt decls parts s t lines → IsWorked decls parts s t lines
worked decls parts s t lines ready w = record {
  notes = w.notes;
  deeds = w.deeds;
  cells = cells;
  passes = after.passes ∙ ap length cells;
  logs = after.logs ∙ ap length cells;
  lines = w.lines;
  calls = λ k d lt. w.calls k d lt ∙ (sym (calls_at_lines k w.notes) ∙ ap (map numbered) (sym (log k (in_cells k lt))));
  logged = λ k p q lt. subst (IsLogged (slice_index_or s.passes k p) (slice_index_or t.passes k q)) (sym (log k lt)) (logs_of k w.notes s t kept w.connects lt p q).logged;
  noted = all_noted w.notes s t kept w.connects;
  done = w.done;
}
  where
    kept : IsKept s
    kept = record {
      passes = ready.seat.passes;
      logs = ready.seat.logs;
      earlier = λ k lt. subst (AllByRecursion (λ l. l.ordinal < s.last + 1)) (sym (empty_at s.logs ready.logs k)) tt;
    }

    cells : t.cells ≡ s.cells
    cells = cells_kept w.notes s t w.connects

    after : IsKept t
    after = kept_after w.notes s t kept w.connects

    in_cells : (k : ℕ) → k < length decls → k < length s.cells
    in_cells k lt =
        let a = ap length ready.kinds in
        let b = length-map s.passes (λ (p : Known). p.kind) in
        let c = length-map decls (λ (d : CellDecl). d.kind) in
        let e = ready.seat.passes in
        omega arith

    log : (k : ℕ) → k < length s.cells → slice_index_or t.logs k [] ≡ lines_at k w.notes
    log k lt =
        let p = at_place s.passes k (let e = ready.seat.passes in omega arith) in
        (logs_of k w.notes s t kept w.connects lt p p).grown ∙ ap (λ ls. ls ++ lines_at k w.notes) (empty_at s.logs ready.logs k)
