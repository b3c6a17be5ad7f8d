-- What all workers did, and what the cells ended with, make a lawful report.
use Rattle.std.proofs.Common.{◌≡◌, ℕ, ◌+◌, ◌<◌, List, [], length, get_or, None, Some, refl, ap, sym, subst, ◌∙◌, arith}
use Rattle.std.specs.Prelude.{Option, IfSome, find, map, slice_get, ◌==◌}
use Rattle.std.specs.List.{AllByRecursion}
use Rattle.plain_model.specs.declared.plain.Plain.{Plain}
use Rattle.plain_model.specs.declared.history.Line.{Line}
use Rattle.plain_model.specs.declared.report.CellDecl.{CellDecl}
use Rattle.plain_model.specs.declared.report.CellReport.{CellReport}
use Rattle.plain_model.specs.declared.report.LocalLine.{LocalLine}
use Rattle.plain_model.specs.declared.report.Script.{Script}
use Rattle.plain_model.specs.History.{Whole, numbered, value_at}
use Rattle.plain_model.specs.Work.{calls_at, value_then, work_from}
use Rattle.plain_model.specs.Lawful.{HasWorked, IsCellRun, Lawful, parts_of}
use Rattle.interlocked.specs.Known.{Known, Shared}
use Rattle.interlocked.specs.Rights.{Shows}
use Rattle.interlocked.specs.Whole.{new_pass}
use Rattle.history_merge.specs.Lines.{lines_by}
use Rattle.history_merge.proofs.Found.{among_own}
use Rattle.runs.specs.Notes.{Note, IsReported}
use Rattle.runs.specs.Places.{decls_in}
use Rattle.seats.specs.Seats.{Seated}
use Rattle.seats.specs.Logs.{IsLogged}
use Rattle.seats.specs.Worked.{IsNoted}
use Rattle.workers.specs.Opened.{AreCells, IsOpened, new_seat, passes_of}
use Rattle.workers.specs.Hands.{Handed, no_hand}
use Rattle.workers.specs.Closed.{AreClosed, AreLogged, IsClosed}
use Rattle.workers.specs.Worked.{AreGathered, HaveWorked, column, passes_at}
use Rattle.workers.proofs.Lists.{all_by_index, all_weaker, get_there, index_map, length_map, one_there, same_lists}
use Rattle.workers.proofs.Histories.{last, shown}
use Rattle.workers.proofs.Probes.{probes}

-- what all workers noted of one cell, of what each of them did
pub logged_at : (script : Script) (n : ℕ) (cells : List Shared) (seats : List Seated) (locals : List (List LocalLine)) → HaveWorked script n cells seats locals
    → (c : ℕ) (s : Shared) (q : Known) → c < length cells → AreLogged n (get_or cells c s) (column c q seats)
logged_at script n cells seats locals worked c s q low = record {
  passes = length_map (λ (t : Seated). get_or t.passes c q) seats ∙ worked.many;
  logs = length_map (λ (t : Seated). get_or t.logs c []) seats ∙ worked.many;
  each = λ k r lt.
      let t : Seated = new_seat 0 cells in
      let within : k < length seats = let e = worked.many in omega arith in
      let its : Shared = get_or cells c s in
      let first : Known = new_pass its.table its.passes its.first (k + 1) in
      let new : get_or (passes_of (k + 1) cells) c q ≡ first = index_map (λ (x : Shared). new_pass x.table x.passes x.first (k + 1)) cells c s q low in
      let t' : Seated = get_or seats k t in
      subst (λ log. IsLogged first (get_or (passes_at c q seats) k r) log) (sym (index_map (λ (x : Seated). get_or x.logs c []) seats k t [] within))
      (subst (λ p. IsLogged first p (get_or t'.logs c [])) (sym (index_map (λ (x : Seated). get_or x.passes c q) seats k t r within))
      (subst (λ p. IsLogged p (get_or t'.passes c q) (get_or t'.logs c [])) new ((worked.each k t [] lt).logged c q q low)));
}

-- ---- one cell

cell_run : (n : ℕ) (d : CellDecl) (s : Shared) (h : Handed) (r : CellReport) → IsOpened n d s → AreLogged n s h → IsClosed d s h r → IsCellRun n r
cell_run n d s h r opened are c = subst (IsCellRun n) (sym c.report) (record {
  first = opened.first;
  legal = record {
    steps = c.merged.steps;
    order = c.merged.order;
    probes = probes n d s h r are c;
  };
  callers = all_weaker (λ l by. let e = are.logs in (omega (arith, by.0), omega (arith, by.1))) c.lines c.merged.callers;
  last = last n s h are c.front c.kept c.whole ∙ sym c.merged.last;
})

module _ (script : Script) (n : ℕ) (cells : List Shared) (columns : List Handed) (locals : List (List LocalLine)) (reports : List CellReport)
    (opened : AreCells n script.cells cells) (gathered : AreGathered script n cells columns locals) (closed : AreClosed script.cells cells columns reports) where
  abbrev seats : List Seated
  seats = gathered.seats

  abbrev worked : HaveWorked script n cells seats locals
  worked = gathered.worked

  abbrev some_pass : Shared → Known
  some_pass s = new_pass s.table s.passes s.first 0

  abbrev some_seat : Seated
  some_seat = new_seat 0 cells

  -- the report of a cell, with its column written out
  closed_at : (c : ℕ) (d : CellDecl) (s : Shared) (q : Known) (r : CellReport) → c < length cells → IsClosed (get_or script.cells c d) (get_or cells c s) (column c q seats) (get_or reports c r)
  closed_at c d s q r low =
      subst (λ h. IsClosed (get_or script.cells c d) (get_or cells c s) h (get_or reports c r)) (gathered.by_cell.each c no_hand q low)
      (closed.each c d s no_hand r (let e = opened.many in omega arith))

  -- ---- declarations

  decls : decls_in reports ≡ script.cells
  decls = same_lists (decls_in reports) script.cells (length_map (λ (r : CellReport). r.cell) reports ∙ closed.many) same
    where
      same : (c : ℕ) (d : CellDecl) → c < length (decls_in reports) → get_or (decls_in reports) c d ≡ get_or script.cells c d
      same c d lt =
          let lengths = length_map (λ (r : CellReport). r.cell) reports in
          let all = closed.many in
          let many = opened.many in
          let s : Shared = (one_there cells c (omega arith)).0 in
          let r : CellReport = (one_there reports c (omega arith)).0 in
          index_map (λ (r : CellReport). r.cell) reports c r d (omega arith) ∙ ap (λ (r : CellReport). r.cell) (closed_at c d s (some_pass s) r (omega arith)).report

  -- the lines of a worker in the history of a cell are those that it noted
  lines_of_worker : (k : ℕ) → k < n → (c : ℕ) (d : CellDecl) (s : Shared) (q : Known) (r : CellReport) → c < length cells
      → lines_by (k + 1) (get_or reports c r).lines ≡ get_or (get_or seats k some_seat).logs c []
  lines_of_worker k lt c d s q r low =
      let is = closed_at c d s q r low in
      let many = worked.many in
      ap (λ (x : CellReport). lines_by (k + 1) x.lines) is.report
      ∙ (is.merged.whole k (let e = length_map (λ (x : Seated). get_or x.logs c []) seats in omega arith)
      ∙ index_map (λ (x : Seated). get_or x.logs c []) seats k some_seat [] (omega arith))

  -- ---- what was noted is reported

  reported : (k : ℕ) → k < n → (m : Note) → IsNoted (get_or seats k some_seat) m → IsReported (k + 1) reports m
  reported k lt m noted = record {
    report = get_or reports c r;
    at = get_there reports c r (let e = closed.many in let f = opened.many in omega (arith, low));
    line = among_own (k + 1) m.line.ordinal (get_or reports c r).lines ∙ (ap (find (λ l. l.ordinal == m.line.ordinal)) (lines_of_worker k lt c d s q r low) ∙ noted.line);
    value = read m.value (noted.value q);
  }
    where
      c : ℕ
      c = m.place

      low : c < length cells
      low = let e : length (get_or seats k some_seat).cells ≡ length cells = ap length (worked.each k some_seat [] lt).cells in let f = noted.place in omega arith

      s : Shared
      s = (one_there cells c low).0

      q : Known
      q = some_pass s

      r : CellReport
      r = (one_there reports c (let e = closed.many in let f = opened.many in omega (arith, low))).0

      d : CellDecl
      d = (one_there script.cells c (let e = opened.many in omega (arith, low))).0

      read : (v : Option Plain) → IfSome v (Shows (get_or (get_or seats k some_seat).passes c q).view.seen m.line.position) → IfSome v (λ p. value_then (get_or reports c r) m.line ≡ p)
      read None h = tt
      read (Some p) h =
          let is = closed_at c d s q r low in
          let its = logged_at script n cells seats locals worked c s q low in
          let at : get_or (passes_at c q seats) k q ≡ get_or (get_or seats k some_seat).passes c q = index_map (λ (x : Seated). get_or x.passes c q) seats k some_seat q (let e = worked.many in omega arith) in
          let saw = shown n (get_or cells c s) (column c q seats) its is.front is.kept is.whole k q lt m.line.position p
          (subst (λ (x : Known). Shows x.view.seen m.line.position p) (sym at) h) in
          ap (λ (x : CellReport). value_at x.first x.lines m.line.position) is.report ∙ (is.merged.values m.line.position saw.0 ∙ saw.1)

  -- ---- what each worker did

  calls : (k : ℕ) (lt : k < n) (c : ℕ) (r : CellReport) → c < length reports
      → Whole (calls_at (get_or reports c r).cell.name (worked.each k some_seat [] lt).deeds) (k + 1) (get_or reports c r).lines
  calls k lt c r small =
      let within : c < length script.cells = let e = closed.many in omega arith in
      let low : c < length cells = let e = opened.many in omega arith in
      let s : Shared = (one_there cells c low).0 in
      let d : CellDecl = (one_there script.cells c within).0 in
      let w = worked.each k some_seat [] lt in
      ap (map numbered) (lines_of_worker k lt c d s (some_pass s) r low)
      ∙ (sym (w.calls c d within) ∙ ap (λ (x : CellReport). calls_at x.cell.name w.deeds) (sym (closed_at c d s (some_pass s) r low).report))

  works : (k : ℕ) → k < n → HasWorked (k + 1) (work_from reports (k + 1) 1 (parts_of (k + 1) n script.parts)) reports (slice_get locals k)
  works k lt =
      let w = worked.each k some_seat [] lt in
      let deeds : work_from reports (k + 1) 1 (parts_of (k + 1) n script.parts) ≡ Some w.deeds = w.done (k + 1) reports decls (all_weaker (reported k lt) w.notes w.noted) in
      let told : slice_get locals k ≡ Some (get_or locals k []) = get_there locals k [] (let e = worked.told in omega arith) in
      subst (λ x. HasWorked (k + 1) x reports (slice_get locals k)) (sym deeds) (subst (λ x. HasWorked (k + 1) (Some w.deeds) reports x) (sym told) (record {
        lines = sym w.lines;
        calls = all_by_index (λ (c : CellReport). Whole (calls_at c.cell.name w.deeds) (k + 1) c.lines) reports (calls k lt);
      }))

  runs : (c : ℕ) (r : CellReport) → c < length reports → IsCellRun n (get_or reports c r)
  runs c r small =
      let within : c < length script.cells = let e = closed.many in omega arith in
      let low : c < length cells = let e = opened.many in omega arith in
      let s : Shared = (one_there cells c low).0 in
      let d : CellDecl = (one_there script.cells c within).0 in
      let q = some_pass s in
      cell_run n (get_or script.cells c d) (get_or cells c s) (column c q seats) (get_or reports c r) (opened.each c d s low) (logged_at script n cells seats locals worked c s q low) (closed_at c d s q r low)

  pub is_lawful : Lawful script n (record { workers = n; cells = reports; locals = locals })
  is_lawful = record {
    workers = refl;
    cells = decls;
    runs = all_by_index (IsCellRun n) reports runs;
    one_list_per_worker = worked.told;
    works = works;
  }
