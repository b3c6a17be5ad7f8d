-- A generated script has a lawful report of one worker.
use Rattle.std.specs.Prelude.{◌≡◌, ℕ, zero, suc, pos, ◌+◌, ◌*◌, ◌%◌, ◌<◌, List, [], ◌∷◌, ◌++◌, length, map, Bool, true, false, ◌||◌, ◌&&◌, ◌==◌, bytes_eq, Option, Some, None, is_some, is_none, option_map, if◌then◌else◌, Ok}
use Rattle.std.specs.List.{flat_map, cons_option, list_any, AllByRecursion}
use Rattle.std.proofs.Common.{refl, ap, sym, ◌∙◌, arith, subst, true≢false}
use Rattle.std.proofs.lemmas.Bool.{lt-ltb, eq-eqb}
use Rattle.imm_base.specs.declared.val.Val.{Val}
use Rattle.imm_base.specs.declared.val.Val.TheVariants.{Int}
use Rattle.plain_model.specs.declared.plain.Plain.{Plain}
use Rattle.plain_model.specs.declared.commands.Command.{Command}
use Rattle.plain_model.specs.declared.history.Line.{Line}
use Rattle.plain_model.specs.declared.report.CellDecl.{CellDecl}
use Rattle.plain_model.specs.declared.report.CellReport.{CellReport}
use Rattle.plain_model.specs.declared.report.Report.{Report}
use Rattle.plain_model.specs.Plain.{first_value, nothing}
use Rattle.plain_model.specs.Cell.{after, cell}
use Rattle.plain_model.specs.Frozen.{numbers_from}
use Rattle.plain_model.specs.History.{Numbered, last_value, calls_of, Whole, probe_of}
use Rattle.plain_model.specs.Locals.{◌>>=◌, Locals, no_locals}
use Rattle.plain_model.specs.Names.{Name}
use Rattle.plain_model.specs.Work.{Deed, on_cell, Done, done_by_call, line_of, cell_named, call_on, deeds_of, work_from, local_lines, calls_at}
use Rattle.plain_model.specs.Lawful.{Lawful, HasWorked, IsCellRun, parts_of}
use Rattle.plain_model.specs.Generator.{generated, generated_command}
use Rattle.worked_examples.proofs.Built.{only_zero, built, line_at, rise_from, have_no_factory, built_legal, built_by_one}
use Rattle.worked_examples.proofs.GeneratedCells.{dict_cell, stack_cell, queue_cell, list_cell}
use Rattle.worked_examples.proofs.Generated.{Asked, IsCall, part_of, every_part, call_in_turn, turns_are_calls, generated_call}

-- ---- numbered calls

abbrev numbered_if : Bool → ℕ → Asked → Option Numbered
numbered_if b o c = if b then Some (record { ordinal = o; call = c.1 }) else None

-- the calls on the cell of a name, where the first of all has this ordinal
abbrev pub numbered_asked : ℕ → Name → List Asked → List Numbered
numbered_asked o name [] = []
numbered_asked o name (c ∷ cs) = cons_option (numbered_if (bytes_eq c.0 name) o c) (numbered_asked (o + 1) name cs)

abbrev deeds_at : ℕ → List Asked → List Deed
deeds_at o [] = []
deeds_at o (c ∷ cs) = on_cell c.0 (record { ordinal = o; call = c.1 }) ∷ deeds_at (o + 1) cs

calls_of_deeds : (name : Name) (cs : List Asked) (o : ℕ) → calls_at name (deeds_at o cs) ≡ numbered_asked o name cs
calls_of_deeds name [] o = refl
calls_of_deeds name (c ∷ cs) o = ap (λ l. cons_option (numbered_if (bytes_eq c.0 name) o c) l) (calls_of_deeds name cs (o + 1))

no_lines : (cs : List Asked) (o : ℕ) → local_lines (deeds_at o cs) ≡ []
no_lines [] o = refl
no_lines (c ∷ cs) o = no_lines cs (o + 1)

deeds_joined : (xs ys : List Asked) (o : ℕ) → deeds_at o (xs ++ ys) ≡ deeds_at o xs ++ deeds_at (o + length xs) ys
deeds_joined [] ys o = let e : o ≡ o + 0 = omega arith in ap (λ k. deeds_at k ys) e
deeds_joined (c ∷ xs) ys o =
    let e : o + 1 + length xs ≡ o + suc (length xs) = omega arith in
    let first : Deed = on_cell c.0 (record { ordinal = o; call = c.1 }) in
    ap (λ l. first ∷ l) (deeds_joined xs ys (o + 1)) ∙ ap (λ k. first ∷ (deeds_at (o + 1) xs ++ deeds_at k ys)) e

-- the ordinals rise
rise_by : (b : Bool) (low o : ℕ) (c : Asked) (ks : List Numbered) → low < o → ((l : ℕ) → l < o + 1 → rise_from l ks ≡ true) → rise_from low (cons_option (numbered_if b o c) ks) ≡ true
rise_by true low o c ks h rest = ap (λ b. b && rise_from o ks) (lt-ltb low o h) ∙ rest o (omega arith)
rise_by false low o c ks h rest = rest low (omega arith)

rising : (name : Name) (cs : List Asked) (o low : ℕ) → low < o → rise_from low (numbered_asked o name cs) ≡ true
rising name [] o low h = refl
rising name (c ∷ cs) o low h = rise_by (bytes_eq c.0 name) low o c (numbered_asked (o + 1) name cs) h (λ l g. rising name cs (o + 1) l g)

-- no call may run a factory
abbrev AreUnmade : List Asked → Type 0
AreUnmade all = AllByRecursion (λ c. is_none (probe_of c.1) ≡ true) all

unmade : (name : Name) (all : List Asked) (o : ℕ) → AreUnmade all → have_no_factory (numbered_asked o name all) ≡ true
unmade name [] o none = refl
unmade name (c ∷ cs) o none = here (bytes_eq c.0 name) (unmade name cs (o + 1) none.1)
  where
    here : (b : Bool) → have_no_factory (numbered_asked (o + 1) name cs) ≡ true → have_no_factory (cons_option (numbered_if b o c) (numbered_asked (o + 1) name cs)) ≡ true
    here true rest = ap (λ t. t && have_no_factory (numbered_asked (o + 1) name cs)) none.0 ∙ rest
    here false rest = rest

turn_unmade : (k : ℕ) (v : Val) → is_none (probe_of (call_in_turn k v).1) ≡ true
turn_unmade zero v = refl
turn_unmade (suc zero) v = refl
turn_unmade (suc (suc zero)) v = refl
turn_unmade (suc (suc (suc k))) v = refl

all_unmade : (g : ℕ → ℕ → Asked) → ((p j : ℕ) → is_none (probe_of (g p j).1) ≡ true) → (js ps : List ℕ) → AreUnmade (flat_map (λ p. map (g p) js) ps)
all_unmade g h js [] = tt
all_unmade g h js (p ∷ ps) = onto js (all_unmade g h js ps)
  where
    onto : (is : List ℕ) → AreUnmade (flat_map (λ q. map (g q) js) ps) → AreUnmade (map (g p) is ++ flat_map (λ q. map (g q) js) ps)
    onto [] rest = rest
    onto (i ∷ is) rest = (h p i, onto is rest)

-- ---- a line for each

abbrev has : ℕ → List Numbered → Bool
has o ks = list_any (λ k. k.ordinal == o) ks

line_by : (o : ℕ) (ks : List Numbered) (p : Plain) (k : ℕ) → has o ks ≡ true → is_some (line_of 1 o (built p k ks)) ≡ true
line_by o [] p k h = h
line_by o (c ∷ ks) p k h = by_cases (c.ordinal == o) h (λ g. line_by o ks (after c.call p) (if is_some (cell c.call p).installs then k + 1 else k) g)
  where
    by_cases : (b : Bool) → (b || has o ks) ≡ true → (has o ks ≡ true → is_some (line_of 1 o (built (after c.call p) (if is_some (cell c.call p).installs then k + 1 else k) ks)) ≡ true)
        → is_some (if b then Some (line_at p k c) else line_of 1 o (built (after c.call p) (if is_some (cell c.call p).installs then k + 1 else k) ks)) ≡ true
    by_cases true e more = refl
    by_cases false e more = more e

-- the cell of a call, whose history has all calls on it
record Found (cells : List CellReport) (all : List Asked) (c : Asked) : Type 0 where
  it : CellReport
  named : cell_named c.0 cells ≡ Some it
  lines : it.lines ≡ built it.first 0 (numbered_asked 1 c.0 all)
  itself : bytes_eq c.0 c.0 ≡ true

abbrev Heard : List CellReport → ℕ → List Asked → Type 0
Heard cells o [] = Unit {0}
Heard cells o (c ∷ cs) = ((s : Locals) → call_on cells 1 o c.0 c.1 s ≡ Some (done_by_call o c.0 c.1 s)) × Heard cells (o + 1) cs

called_by : (y : Option Line) (done : Done) → is_some y ≡ true → (y >>= λ l. Some done) ≡ Some done
called_by (Some l) done e = refl
called_by None done e = absurd (true≢false (sym e))

heard_one : (cells : List CellReport) (all : List Asked) (c : Asked) (o : ℕ) → Found cells all c → has o (numbered_asked 1 c.0 all) ≡ true → (s : Locals)
    → call_on cells 1 o c.0 c.1 s ≡ Some (done_by_call o c.0 c.1 s)
heard_one cells all c o found h s =
    ap (λ x. x >>= λ r. line_of 1 o r.lines >>= λ l. Some (done_by_call o c.0 c.1 s)) found.named
    ∙ ap (λ h. line_of 1 o h >>= λ l. Some (done_by_call o c.0 c.1 s)) found.lines
    ∙ called_by (line_of 1 o (built found.it.first 0 (numbered_asked 1 c.0 all))) (done_by_call o c.0 c.1 s) (line_by o (numbered_asked 1 c.0 all) found.it.first 0 h)

-- what has these ordinals is among all
abbrev AreAmong : List Asked → ℕ → List Asked → Type 0
AreAmong all o cs = (name : Name) (k : ℕ) → has k (numbered_asked o name cs) ≡ true → has k (numbered_asked 1 name all) ≡ true

or_true : (b c : Bool) → c ≡ true → (b || c) ≡ true
or_true true c e = refl
or_true false c e = e

has_more : (b : Bool) (k o : ℕ) (c : Asked) (ks : List Numbered) → has k ks ≡ true → has k (cons_option (numbered_if b o c) ks) ≡ true
has_more true k o c ks h = or_true (o == k) (has k ks) h
has_more false k o c ks h = h

same_number : (o : ℕ) → (o == o) ≡ true
same_number o = eq-eqb o o refl

heard : (cells : List CellReport) (all : List Asked) (cs : List Asked) (o : ℕ) → AllByRecursion (Found cells all) cs → AreAmong all o cs → Heard cells o cs
heard cells all [] o found among = tt
heard cells all (c ∷ cs) o found among =
    let it : Numbered = record { ordinal = o; call = c.1 } in
    let here : has o (numbered_asked o c.0 (c ∷ cs)) ≡ true =
    ap (λ b. has o (cons_option (numbered_if b o c) (numbered_asked (o + 1) c.0 cs))) found.0.itself ∙ ap (λ b. b || has o (numbered_asked (o + 1) c.0 cs)) (same_number o) in
    (heard_one cells all c o found.0 (among c.0 o here), heard cells all cs (o + 1) found.1 (λ name k h. among name k (has_more (bytes_eq c.0 name) k o c (numbered_asked (o + 1) name cs) h)))

-- ---- the work

heard_apart : (cells : List CellReport) (xs ys : List Asked) (o : ℕ) → Heard cells o (xs ++ ys) → Heard cells o xs × Heard cells (o + length xs) ys
heard_apart cells [] ys o h = let e : o ≡ o + 0 = omega arith in (tt, subst (λ k. Heard cells k ys) e h)
heard_apart cells (c ∷ xs) ys o h =
    let both = heard_apart cells xs ys (o + 1) h.1 in
    let e : o + 1 + length xs ≡ o + suc (length xs) = omega arith in
    ((h.0, both.0), subst (λ k. Heard cells k ys) e both.1)

deeds_done : (cells : List CellReport) (f : ℕ → Command) (g : ℕ → Asked) (d : (j : ℕ) → IsCall (f j) (g j)) (js : List ℕ) (o : ℕ) (s : Locals) → Heard cells o (map g js)
    → deeds_of cells 1 o (map f js) s ≡ Some (deeds_at o (map g js))
deeds_done cells f g d [] o s h = refl
deeds_done cells f g d (j ∷ js) o s h =
    ap (λ x. x >>= λ done. option_map (λ es. done.deed ∷ es) (deeds_of cells 1 (o + 1) (map f js) done.after)) (d j cells 1 o s ∙ h.0 s)
    ∙ ap (λ x. option_map (λ es. on_cell (g j).0 (record { ordinal = o; call = (g j).1 }) ∷ es) x) (deeds_done cells f g d js (o + 1) s h.1)

as_long : (f : ℕ → Command) (g : ℕ → Asked) (js : List ℕ) → length (map f js) ≡ length (map g js)
as_long f g [] = refl
as_long f g (j ∷ js) = ap (λ k. suc k) (as_long f g js)

work_done : (cells : List CellReport) (f : ℕ → ℕ → Command) (g : ℕ → ℕ → Asked) (d : (p j : ℕ) → IsCall (f p j) (g p j)) (js ps : List ℕ) (o : ℕ)
    → Heard cells o (flat_map (λ p. map (g p) js) ps) → work_from cells 1 o (map (λ p. map (f p) js) ps) ≡ Some (deeds_at o (flat_map (λ p. map (g p) js) ps))
work_done cells f g d js [] o h = refl
work_done cells f g d js (p ∷ ps) o h =
    let all : List Asked = flat_map (λ q. map (g q) js) ps in
    let apart = heard_apart cells (map (g p) js) all o h in
    ap (λ x. x >>= λ ds. option_map (λ es. ds ++ es) (work_from cells 1 (o + length (map (f p) js)) (map (λ q. map (f q) js) ps))) (deeds_done cells (f p) (g p) (d p) js o no_locals apart.0)
    ∙ ap (λ k. option_map (λ es. deeds_at o (map (g p) js) ++ es) (work_from cells 1 (o + k) (map (λ q. map (f q) js) ps))) (as_long (f p) (g p) js)
    ∙ ap (λ x. option_map (λ es. deeds_at o (map (g p) js) ++ es) x) (work_done cells f g d js ps (o + length (map (g p) js)) apart.1)
    ∙ ap Some (sym (deeds_joined (map (g p) js) all o))

-- ---- a cell's report

abbrev report_of : List Asked → CellDecl → Plain → CellReport
report_of all c p = record { cell = c; first = p; lines = built p 0 (numbered_asked 1 c.name all); last = last_value p (built p 0 (numbered_asked 1 c.name all)) }

-- the calls of a history that is built are those that it is built of
built_calls : (ks : List Numbered) (p : Plain) (k : ℕ) → calls_of 1 (built p k ks) ≡ ks
built_calls [] p k = refl
built_calls (c ∷ ks) p k = ap (λ l. c ∷ l) (built_calls ks (after c.call p) (if is_some (cell c.call p).installs then k + 1 else k))

run_of : (all : List Asked) → AreUnmade all → (c : CellDecl) (p : Plain) → first_value c.kind c.values ≡ Ok p → IsCellRun 1 (report_of all c p)
run_of all none c p e = record {
  first = e;
  legal = built_legal (numbered_asked 1 c.name all) p (rising c.name all 1 0 (omega arith)) (unmade c.name all 1 none);
  callers = built_by_one (numbered_asked 1 c.name all) p 0;
  last = refl;
}

whole_of : (all : List Asked) (c : CellDecl) (p : Plain) → Whole (calls_at c.name (deeds_at 1 all)) 1 (report_of all c p).lines
whole_of all c p = built_calls (numbered_asked 1 c.name all) p 0 ∙ sym (calls_of_deeds c.name all 1)

-- ---- the four cells

abbrev cells_of : List Asked → List CellReport
cells_of all =
    report_of all dict_cell (nothing dict_cell.kind)
    ∷ report_of all stack_cell (nothing stack_cell.kind)
    ∷ report_of all queue_cell (nothing queue_cell.kind)
    ∷ report_of all list_cell (nothing list_cell.kind)
    ∷ []

turn_found : (all : List Asked) (k : ℕ) (v : Val) → Found (cells_of all) all (call_in_turn k v)
turn_found all zero v = record { it = report_of all dict_cell (nothing dict_cell.kind); named = refl; lines = refl; itself = refl }
turn_found all (suc zero) v = record { it = report_of all stack_cell (nothing stack_cell.kind); named = refl; lines = refl; itself = refl }
turn_found all (suc (suc zero)) v = record { it = report_of all queue_cell (nothing queue_cell.kind); named = refl; lines = refl; itself = refl }
turn_found all (suc (suc (suc k))) v = record { it = report_of all list_cell (nothing list_cell.kind); named = refl; lines = refl; itself = refl }

all_found : (cells : List CellReport) (all : List Asked) (g : ℕ → ℕ → Asked) → ((p j : ℕ) → Found cells all (g p j)) → (js ps : List ℕ) → AllByRecursion (Found cells all) (flat_map (λ p. map (g p) js) ps)
all_found cells all g h js [] = tt
all_found cells all g h js (p ∷ ps) = onto js (all_found cells all g h js ps)
  where
    onto : (is : List ℕ) → AllByRecursion (Found cells all) (flat_map (λ q. map (g q) js) ps) → AllByRecursion (Found cells all) (map (g p) is ++ flat_map (λ q. map (g q) js) ps)
    onto [] rest = rest
    onto (i ∷ is) rest = (h p i, onto is rest)

-- ---- the report

worked_by : (all : List Asked) (cells : List CellReport) (x : Option (List Deed)) → x ≡ Some (deeds_at 1 all) → AllByRecursion (λ c. Whole (calls_at c.cell.name (deeds_at 1 all)) 1 c.lines) cells → HasWorked 1 x cells (Some [])
worked_by all cells x e whole = subst (λ y. HasWorked 1 y cells (Some [])) (sym e) (record { lines = no_lines all 1; calls = whole })

unfoldable pub generated_calls : ℕ → List Asked
generated_calls n = flat_map (λ p. map (generated_call n p) (numbers_from 0 4000)) (numbers_from 0 4)

calls_same : (n : ℕ) → flat_map (λ p. map (generated_call n p) (numbers_from 0 4000)) (numbers_from 0 4) ≡ generated_calls n
unfolding generated_calls
calls_same n = refl

-- the work of a script of parts of calls, where all have been found
script_worked : (f : ℕ → ℕ → Command) (g : ℕ → ℕ → Asked) (d : (p j : ℕ) → IsCall (f p j) (g p j)) (js ps : List ℕ) (all : List Asked) → flat_map (λ p. map (g p) js) ps ≡ all
    → (cells : List CellReport) → ((p j : ℕ) → Found cells all (g p j)) → work_from cells 1 1 (parts_of 1 1 (map (λ p. part_of (map (f p) js)) ps)) ≡ Some (deeds_at 1 all)
script_worked f g d js ps all e cells found =
    ap (work_from cells 1 1) (every_part f js ps)
    ∙ work_done cells f g d js ps 1 (heard cells all (flat_map (λ p. map (g p) js) ps) 1 (all_found cells all g found js ps) (λ name k h. subst (λ l. has k (numbered_asked 1 name l) ≡ true) e h))
    ∙ ap (λ l. Some (deeds_at 1 l)) e

pub generated_report : (n : ℕ) → (r : Report) × Lawful (generated n) 1 r
generated_report n =
    let all : List Asked = generated_calls n in
    let cells : List CellReport = cells_of all in
    let none : AreUnmade all = subst AreUnmade (calls_same n)
    (all_unmade (generated_call n) (λ p j. turn_unmade (j % 4) (Int (pos ((n + 7 * j + 13 * p) % 100)))) (numbers_from 0 4000) (numbers_from 0 4)) in
    let report : Report = record { workers = 1; cells = cells; locals = [] ∷ [] } in
    let worked : work_from cells 1 1 (parts_of 1 1 (map (λ p. part_of (map (generated_command n p) (numbers_from 0 4000))) (numbers_from 0 4))) ≡ Some (deeds_at 1 all) =
    script_worked (generated_command n) (generated_call n) (λ p j. turns_are_calls (j % 4) (Int (pos ((n + 7 * j + 13 * p) % 100)))) (numbers_from 0 4000) (numbers_from 0 4) all (calls_same n) cells
    (λ p j. turn_found all (j % 4) (Int (pos ((n + 7 * j + 13 * p) % 100)))) in (
      report,
      record {
        workers = refl;
        cells = refl;
        runs = (run_of all none dict_cell _ refl, (run_of all none stack_cell _ refl, (run_of all none queue_cell _ refl, (run_of all none list_cell _ refl, tt))));
        one_list_per_worker = refl;
        works = only_zero _ (worked_by all cells _ worked (whole_of all dict_cell _, (whole_of all stack_cell _, (whole_of all queue_cell _, (whole_of all list_cell _, tt)))));
      },
    )
