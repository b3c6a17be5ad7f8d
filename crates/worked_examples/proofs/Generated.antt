-- What the lawful reports of a script of calls on cells come to, with one worker.
use Rattle.std.specs.Prelude.{◌≡◌, ℕ, zero, suc, pos, ◌+◌, ◌*◌, ◌%◌, ◌≤◌, List, [], ◌∷◌, ◌++◌, length, map, filter, fold, filter_map, codes, Bool, true, false, ◌==◌, bytes_eq, Option, Some, None, is_some, option_map, unwrap_or, Result, Ok, Err, if◌then◌else◌, slice_get}
use Rattle.std.specs.List.{flat_map, cons_option, AllByRecursion}
use Rattle.std.proofs.Common.{refl, ap, sym, ◌∙◌, arith, true≢false}
use Rattle.std.proofs.lemmas.List.Elements.{filter_map-append}
use Rattle.imm_base.specs.declared.val.Val.{Val}
use Rattle.imm_base.specs.declared.val.Val.TheVariants.{Int}
use Rattle.plain_model.specs.declared.plain.Kind.TheVariants as kinds
use Rattle.plain_model.specs.declared.plain.Plain.{Plain}
use Rattle.plain_model.specs.declared.commands.PlainOp.TheVariants as ops
use Rattle.plain_model.specs.declared.commands.Transform.TheVariants.{Plus}
use Rattle.plain_model.specs.declared.commands.PlainCall.{PlainCall}
use Rattle.plain_model.specs.declared.commands.PlainCall.TheVariants as calls
use Rattle.plain_model.specs.declared.commands.Command.{Command}
use Rattle.plain_model.specs.declared.history.Line.{Line}
use Rattle.plain_model.specs.declared.history.Refusal.{Refusal}
use Rattle.plain_model.specs.declared.report.CellDecl.{CellDecl}
use Rattle.plain_model.specs.declared.report.CellReport.{CellReport}
use Rattle.plain_model.specs.declared.report.LocalLine.{LocalLine}
use Rattle.plain_model.specs.declared.report.Part.{Part}
use Rattle.plain_model.specs.declared.report.Report.{Report}
use Rattle.plain_model.specs.Plain.{first_value, nothing}
use Rattle.plain_model.specs.Cell.{cell, after}
use Rattle.plain_model.specs.Frozen.{numbers_from}
use Rattle.plain_model.specs.History.{Numbered, numbered, FitsFrom, Fits, last_value, Whole}
use Rattle.plain_model.specs.Locals.{◌>>=◌, Locals, no_locals}
use Rattle.plain_model.specs.Names.{Name}
use Rattle.plain_model.specs.Work.{Deed, on_cell, Done, done_by_call, line_of, cell_named, deed_of, call_on, deeds_of, work_from, calls_at}
use Rattle.plain_model.specs.Lawful.{Lawful, HasWorked, IsCellRun, parts_of}
use Rattle.plain_model.specs.Text.{line}
use Rattle.plain_model.proofs.OneWorker.{parts_of_one}
use Rattle.plain_model.specs.Generator.{generated, generated_cells, generated_command, in_turn, installs, cell_summary, cell_summary_text}

-- ---- options

none_some : {A B : Type 0} (x : A) → None ≡ Some x → B
none_some x e = absurd (true≢false (sym (ap is_some e)))

some_same : {A : Type 0} (x y : A) → Some x ≡ Some y → x ≡ y
some_same x y e = ap (λ o. unwrap_or o x) e

bound : {A B : Type 0} (x : Option A) (k : A → Option B) (b : B) → (x >>= k) ≡ Some b → (a : A) × (x ≡ Some a) × (k a ≡ Some b)
bound None k b e = none_some b e
bound (Some a) k b e = (a, refl, e)

mapped : {A B : Type 0} (x : Option A) (h : A → B) (b : B) → option_map h x ≡ Some b → (a : A) × (x ≡ Some a) × (b ≡ h a)
mapped None h b e = none_some b e
mapped (Some a) h b e = (a, refl, some_same b (h a) (sym e))

-- ---- the calls that commands are

abbrev pub Asked : Type 0
Asked = Name × PlainCall

abbrev pub asked_of : Name → Asked → Option PlainCall
asked_of name c = if bytes_eq c.0 name then Some c.1 else None

-- those on the cell of a name
abbrev pub asked : Name → List Asked → List PlainCall
asked name cs = filter_map (asked_of name) cs

abbrev pub IsCall : Command → Asked → Type 0
IsCall command c = (cells : List CellReport) (w o : ℕ) (s : Locals) → deed_of cells w o command s ≡ call_on cells w o c.0 c.1 s

abbrev plain_calls : List Numbered → List PlainCall
plain_calls ks = map (λ k. k.call) ks

-- one deed more
one_more : (b : Bool) (k : Numbered) (ks : List Numbered) (rest : List PlainCall) → plain_calls ks ≡ rest
    → plain_calls (cons_option (if b then Some k else None) ks) ≡ cons_option (if b then Some k.call else None) rest
one_more true k ks rest e = ap (λ l. k.call ∷ l) e
one_more false k ks rest e = e

-- a call that comes to something is its deed
called_so : (cells : List CellReport) (w o : ℕ) (c : Asked) (s : Locals) (k : Done → Option (List Deed)) (ds : List Deed)
    → (call_on cells w o c.0 c.1 s >>= k) ≡ Some ds → k (done_by_call o c.0 c.1 s) ≡ Some ds
called_so cells w o c s k ds e = found (cell_named c.0 cells) e
  where
    lined : (y : Option Line) → ((y >>= λ l. Some (done_by_call o c.0 c.1 s)) >>= k) ≡ Some ds → k (done_by_call o c.0 c.1 s) ≡ Some ds
    lined None e = none_some ds e
    lined (Some l) e = e

    found : (x : Option CellReport) → ((x >>= λ r. line_of w o r.lines >>= λ l. Some (done_by_call o c.0 c.1 s)) >>= k) ≡ Some ds → k (done_by_call o c.0 c.1 s) ≡ Some ds
    found None e = none_some ds e
    found (Some r) e = lined (line_of w o r.lines) e

module _ (cells : List CellReport) (w : ℕ) (name : Name) where
  deeds_asked : (f : ℕ → Command) (g : ℕ → Asked) (d : (j : ℕ) → IsCall (f j) (g j)) (js : List ℕ) (o : ℕ) (s : Locals) (ds : List Deed)
      → deeds_of cells w o (map f js) s ≡ Some ds → plain_calls (calls_at name ds) ≡ asked name (map g js)
  deeds_asked f g d [] o s ds e = ap (λ l. plain_calls (calls_at name l)) (some_same ds [] (sym e))
  deeds_asked f g d (j ∷ js) o s ds e =
      let k : Done → Option (List Deed) = λ done. option_map (λ es. done.deed ∷ es) (deeds_of cells w (o + 1) (map f js) done.after) in
      let e1 : (call_on cells w o (g j).0 (g j).1 s >>= k) ≡ Some ds = ap (λ x. x >>= k) (sym (d j cells w o s)) ∙ e in
      let e2 : k (done_by_call o (g j).0 (g j).1 s) ≡ Some ds = called_so cells w o (g j) s k ds e1 in
      let it : Numbered = record { ordinal = o; call = (g j).1 } in
      let got = mapped (deeds_of cells w (o + 1) (map f js) s) (λ es. on_cell (g j).0 it ∷ es) ds e2 in
      ap (λ l. plain_calls (calls_at name l)) got.2
      ∙ one_more (bytes_eq (g j).0 name) it (calls_at name got.0) (asked name (map g js)) (deeds_asked f g d js (o + 1) s got.0 got.1)

  calls_joined : (ds es : List Deed) (xs ys : List Asked) → plain_calls (calls_at name ds) ≡ asked name xs → plain_calls (calls_at name es) ≡ asked name ys
      → plain_calls (calls_at name (ds ++ es)) ≡ asked name (xs ++ ys)
  calls_joined ds es xs ys a b =
      ap plain_calls (filter_map-append _ ds es) ∙ mapped_join (calls_at name ds) (calls_at name es) ∙ ap (λ l. l ++ plain_calls (calls_at name es)) a ∙ ap (λ l. asked name xs ++ l) b
      ∙ sym (filter_map-append (asked_of name) xs ys)
    where
      mapped_join : (us vs : List Numbered) → plain_calls (us ++ vs) ≡ plain_calls us ++ plain_calls vs
      mapped_join [] vs = refl
      mapped_join (u ∷ us) vs = ap (λ l. u.call ∷ l) (mapped_join us vs)

  work_asked : (f : ℕ → ℕ → Command) (g : ℕ → ℕ → Asked) (d : (p j : ℕ) → IsCall (f p j) (g p j)) (js ps : List ℕ) (o : ℕ) (ds : List Deed)
      → work_from cells w o (map (λ p. map (f p) js) ps) ≡ Some ds → plain_calls (calls_at name ds) ≡ asked name (flat_map (λ p. map (g p) js) ps)
  work_asked f g d js [] o ds e = ap (λ l. plain_calls (calls_at name l)) (some_same ds [] (sym e))
  work_asked f g d js (p ∷ ps) o ds e =
      let rest : ℕ = o + length (map (f p) js) in
      let first = bound (deeds_of cells w o (map (f p) js) no_locals) (λ os. option_map (λ es. os ++ es) (work_from cells w rest (map (λ q. map (f q) js) ps))) ds e in
      let got = mapped (work_from cells w rest (map (λ q. map (f q) js) ps)) (λ es. first.0 ++ es) ds first.2 in
      ap (λ l. plain_calls (calls_at name l)) got.2
      ∙ calls_joined first.0 got.0 (map (g p) js) (flat_map (λ q. map (g q) js) ps) (deeds_asked (f p) (g p) (d p) js o no_locals first.0 first.1) (work_asked f g d js ps rest got.0 got.1)

-- ---- the lines of a cell

ones : (h : List Line) → AllByRecursion (λ l. (1 ≤ l.caller) × (l.caller ≤ 1)) h → filter (λ l. l.caller == 1) h ≡ h
ones [] t = refl
ones (l ∷ h) t =
    let low : 1 ≤ l.caller = t.0.0 in
    let high : l.caller ≤ 1 = t.0.1 in
    let e : l.caller ≡ 1 = omega arith in
    ap (λ c. if c == 1 then l ∷ filter (λ m. m.caller == 1) h else filter (λ m. m.caller == 1) h) e ∙ ap (λ r. l ∷ r) (ones h t.1)

line_calls : (h : List Line) → plain_calls (map numbered h) ≡ map (λ l. l.call) h
line_calls [] = refl
line_calls (l ∷ h) = ap (λ r. l.call ∷ r) (line_calls h)

-- how many calls installed, and the value
abbrev pub moved : ℕ × Plain → Option Plain → ℕ × Plain
moved r (Some q) = (r.0 + 1, q)
moved r None = (r.0 + 0, r.1)

abbrev pub stepped : ℕ × Plain → PlainCall → ℕ × Plain
stepped r call = moved r (cell call r.1).installs

moved_so : (b : Bool) (o : Option Plain) (n : ℕ) (p : Plain) → b ≡ is_some o → moved (n, p) o ≡ (n + (if b then 1 else 0), unwrap_or o p)
moved_so true (Some q) n p e = refl
moved_so true None n p e = absurd (true≢false e)
moved_so false (Some q) n p e = absurd (true≢false (sym e))
moved_so false None n p e = refl

kept_so : (b : Bool) (o : Option Plain) (p : Plain) → b ≡ is_some o → (if b then unwrap_or o p else p) ≡ unwrap_or o p
kept_so true o p e = refl
kept_so false (Some q) p e = absurd (true≢false (sym e))
kept_so false None p e = refl

came : (h : List Line) (n k : ℕ) (p : Plain) → FitsFrom p k h
    → fold stepped (n, p) (map (λ l. l.call) h) ≡ (fold (λ a l. a + (if l.installed then 1 else 0)) n h, last_value p h)
came [] n k p t = refl
came (l ∷ h) n k p t =
    let fits : Fits p k l = t.0 in
    let more : ℕ = n + (if l.installed then 1 else 0) in
    ap (λ r. fold stepped r (map (λ m. m.call) h)) (moved_so l.installed (cell l.call p).installs n p fits.installed)
    ∙ came h more l.position (after l.call p) t.1
    ∙ ap (λ q. (fold (λ a m. a + (if m.installed then 1 else 0)) more h, last_value q h)) (sym (kept_so l.installed (cell l.call p).installs p fits.installed))

-- ---- the cells

abbrev pub first_of : Result Plain Refusal → Plain
first_of (Ok p) = p
first_of (Err r) = nothing kinds.List

-- what calls make of a cell
abbrev pub outcome : List PlainCall → CellDecl → ℕ × Plain
outcome cs c = fold stepped (0, first_of (first_value c.kind c.values)) cs

abbrev pub told : (Name → List PlainCall) → CellDecl → List ℕ
told asks c = line (cell_summary c (outcome (asks c.name) c).0 (outcome (asks c.name) c).1)

cell_told : (ds : List Deed) (cs : List PlainCall) (c : CellReport) → plain_calls (calls_at c.cell.name ds) ≡ cs → IsCellRun 1 c → Whole (calls_at c.cell.name ds) 1 c.lines
    → (installs c.lines, c.last) ≡ outcome cs c.cell
cell_told ds cs c same run whole =
    let calls : map (λ l. l.call) c.lines ≡ cs = sym (line_calls c.lines) ∙ ap (λ h. plain_calls (map numbered h)) (sym (ones c.lines run.callers)) ∙ ap plain_calls whole ∙ same in
    let first : first_of (first_value c.cell.kind c.cell.values) ≡ c.first = ap first_of run.first in
    ap (λ q. (installs c.lines, q)) run.last ∙ sym (came c.lines 0 0 c.first run.legal.steps) ∙ ap (λ q. fold stepped (0, q) (map (λ l. l.call) c.lines)) (sym first)
    ∙ ap (λ l. fold stepped (0, first_of (first_value c.cell.kind c.cell.values)) l) calls

cells_told : (ds : List Deed) (asks : Name → List PlainCall) → ((name : Name) → plain_calls (calls_at name ds) ≡ asks name) → (cs : List CellReport) → AllByRecursion (IsCellRun 1) cs
    → AllByRecursion (λ c. Whole (calls_at c.cell.name ds) 1 c.lines) cs → flat_map cell_summary_text cs ≡ flat_map (told asks) (map (λ c. c.cell) cs)
cells_told ds asks same [] runs whole = refl
cells_told ds asks same (c ∷ cs) runs whole =
    ap (λ r. line (cell_summary c.cell r.0 r.1) ++ flat_map cell_summary_text cs) (cell_told ds (asks c.cell.name) c (same c.cell.name) runs.0 whole.0)
    ∙ ap (λ t. told asks c.cell ++ t) (cells_told ds asks same cs runs.1 whole.1)

-- ---- the report of one worker

abbrev pub part_of : List Command → Part
part_of cs = record { commands = cs }

pub every_part : (f : ℕ → ℕ → Command) (js ps : List ℕ) → parts_of 1 1 (map (λ p. part_of (map (f p) js)) ps) ≡ map (λ p. map (f p) js) ps
every_part f js ps = parts_of_one (map (λ p. part_of (map (f p) js)) ps) ∙ commands_of ps
  where
    commands_of : (qs : List ℕ) → map (λ p. p.commands) (map (λ p. part_of (map (f p) js)) qs) ≡ map (λ p. map (f p) js) qs
    commands_of [] = refl
    commands_of (q ∷ qs) = ap (λ t. map (f q) js ∷ t) (commands_of qs)

worked_so : (cells : List CellReport) (w : ℕ) (x : Option (List Deed)) (y : Option (List LocalLine)) → HasWorked w x cells y
    → (ds : List Deed) × (x ≡ Some ds) × AllByRecursion (λ c. Whole (calls_at c.cell.name ds) w c.lines) cells
worked_so cells w (Some ds) (Some ls) m = (ds, refl, m.calls)
worked_so cells w (Some ds) None m = absurd m
worked_so cells w None y m = absurd m

alone_told : (f : ℕ → ℕ → Command) (g : ℕ → ℕ → Asked) (d : (p j : ℕ) → IsCall (f p j) (g p j)) (js ps : List ℕ) (asks : Name → List PlainCall)
    → ((name : Name) → asked name (flat_map (λ p. map (g p) js) ps) ≡ asks name) → (cells : List CellReport) (y : Option (List LocalLine)) → AllByRecursion (IsCellRun 1) cells
    → HasWorked 1 (work_from cells 1 1 (parts_of 1 1 (map (λ p. part_of (map (f p) js)) ps))) cells y → flat_map cell_summary_text cells ≡ flat_map (told asks) (map (λ c. c.cell) cells)
alone_told f g d js ps asks same cells y runs works =
    let it = worked_so cells 1 (work_from cells 1 1 (parts_of 1 1 (map (λ p. part_of (map (f p) js)) ps))) y works in
    let worked : work_from cells 1 1 (map (λ p. map (f p) js) ps) ≡ Some it.0 = ap (work_from cells 1 1) (sym (every_part f js ps)) ∙ it.1 in
    cells_told it.0 asks (λ name. work_asked cells 1 name f g d js ps 1 it.0 worked ∙ same name) cells runs it.2

-- ---- the generated scripts

abbrev pub call_in_turn : ℕ → Val → Asked
call_in_turn zero v = (codes "D", calls.AddOrUpdate v (Int (pos 1)) (Plus (pos 1)))
call_in_turn (suc zero) v = (codes "S", calls.Push v)
call_in_turn (suc (suc zero)) v = (codes "Q", calls.Enqueue v)
call_in_turn (suc (suc (suc k))) v = (codes "L", calls.Update (ops.Add v))

pub turns_are_calls : (k : ℕ) (v : Val) → IsCall (in_turn k v) (call_in_turn k v)
turns_are_calls zero v cells w o s = refl
turns_are_calls (suc zero) v cells w o s = refl
turns_are_calls (suc (suc zero)) v cells w o s = refl
turns_are_calls (suc (suc (suc k))) v cells w o s = refl

abbrev pub generated_call : ℕ → ℕ → ℕ → Asked
generated_call n p j = call_in_turn (j % 4) (Int (pos ((n + 7 * j + 13 * p) % 100)))

-- the calls on a cell
unfoldable pub generated_asks : ℕ → Name → List PlainCall
generated_asks n name = asked name (flat_map (λ p. map (generated_call n p) (numbers_from 0 4000)) (numbers_from 0 4))

asks_same : (n : ℕ) (name : Name) → asked name (flat_map (λ p. map (generated_call n p) (numbers_from 0 4000)) (numbers_from 0 4)) ≡ generated_asks n name
unfolding generated_asks
asks_same n name = refl

pub generated_told : (n : ℕ) (r : Report) → Lawful (generated n) 1 r → flat_map cell_summary_text r.cells ≡ flat_map (told (generated_asks n)) generated_cells
generated_told n r lawful =
    alone_told (generated_command n) (generated_call n) (λ p j. turns_are_calls (j % 4) (Int (pos ((n + 7 * j + 13 * p) % 100)))) (numbers_from 0 4000) (numbers_from 0 4) (generated_asks n)
    (asks_same n) r.cells (slice_get r.locals 0) lawful.runs (lawful.works 0 (omega arith))
    ∙ ap (flat_map (told (generated_asks n))) lawful.cells
