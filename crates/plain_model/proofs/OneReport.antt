-- One worker comes to one report: each of its lines is what the deeds before it leave, and each deed is what its command makes of them.
use Rattle.std.proofs.Common.{◌≡◌, ℕ, suc, ◌+◌, ◌<◌, ◌≤◌, Bool, true, false, cond, eqb, List, [], ◌∷◌, ◌++◌, length, None, Some, Ok, refl, ap, sym, subst, ◌∙◌, arith, eq-eqb, append_assoc}
use Rattle.std.specs.Prelude.{Option, Result, is_some, is_none, option_map, if◌then◌else◌, map, filter, filter_map, slice_get, nat_lt, bytes_eq}
use Rattle.std.specs.List.{AllByRecursion, cons_option}
use Rattle.std.proofs.lemmas.List.Elements.{filter_map-append}
use Rattle.std.proofs.lemmas.Slice.Eq.{bytes_eq-Decides}
use Rattle.imm_base.specs.declared.val.Val.{Val}
use Rattle.plain_model.specs.declared.limits.TheConstants.{PUBLISH_LIMIT}
use Rattle.plain_model.specs.declared.plain.Values.{Values}
use Rattle.plain_model.specs.declared.plain.Plain.{Plain}
use Rattle.plain_model.specs.declared.commands.Factory.{Factory}
use Rattle.plain_model.specs.declared.commands.Probe.{Probe}
use Rattle.plain_model.specs.declared.commands.Probe.TheVariants.{Idle, Ran}
use Rattle.plain_model.specs.declared.commands.PlainCall.{PlainCall}
use Rattle.plain_model.specs.declared.commands.PlainCall.TheVariants as calls
use Rattle.plain_model.specs.declared.commands.Command.{Command}
use Rattle.plain_model.specs.declared.commands.Command.TheVariants as commands
use Rattle.plain_model.specs.declared.history.Line.{Line}
use Rattle.plain_model.specs.declared.history.Reply.{Reply}
use Rattle.plain_model.specs.declared.history.Refusal.{Refusal}
use Rattle.plain_model.specs.declared.report.CellDecl.{CellDecl}
use Rattle.plain_model.specs.declared.report.CellReport.{CellReport}
use Rattle.plain_model.specs.declared.report.LocalLine.{LocalLine}
use Rattle.plain_model.specs.declared.report.Report.{Report}
use Rattle.plain_model.specs.declared.report.Script.{Script}
use Rattle.plain_model.specs.Plain.{count, first_value}
use Rattle.plain_model.specs.Cell.{cell, after, value_in}
use Rattle.plain_model.specs.History.{value_at, last_value, Fits, FitsFrom, Numbered, numbered, calls_of, Whole, probe_of, position_after, position_of, MayRun, MayProbe, ProbesFrom}
use Rattle.plain_model.specs.Names.{Name}
use Rattle.plain_model.specs.Locals.{◌>>=◌, Locals, no_locals, bind, collection, collection_at, local}
use Rattle.plain_model.specs.Work.{Deed, local_line, on_cell, Done, done_locally, done_by_call, refuse_publish, unless_too_many, value_read, value_then, array_at, wanted_at, call_of, call_on, deed_by_call, read_done, publish_done, array_done, compare_done, made_done, deed_of, deeds_of, work_from, line_of, cell_named, local_lines, call_at, calls_at}
use Rattle.plain_model.specs.Lawful.{IsCellRun, IsWorkOf, HasWorked, Lawful, parts_of, HasOneReport}
use Rattle.plain_model.proofs.HistorySteps.{fits_front, fits_back, position_up, value_past, value_there, IsBy, IsEarlier, line_found, position_of_all, value_of_line, probe_there}

-- ---- lines, by the calls of the one worker

abbrev line_by : Plain → ℕ → Numbered → Line
line_by p k n = record {
  position = if is_some (cell n.call p).installs then k + 1 else k;
  caller = 1;
  ordinal = n.ordinal;
  call = n.call;
  reply = (cell n.call p).reply;
  installed = is_some (cell n.call p).installs;
}

abbrev lines_by : Plain → ℕ → List Numbered → List Line
lines_by p k [] = []
lines_by p k (n ∷ ns) = line_by p k n ∷ lines_by (after n.call p) (line_by p k n).position ns

line_fits : (p : Plain) (k : ℕ) (n : Numbered) → Fits p k (line_by p k n)
line_fits p k n = record { installed = refl; reply = refl; position = refl }

lines_fit : (p : Plain) (k : ℕ) (ns : List Numbered) → FitsFrom p k (lines_by p k ns)
lines_fit p k [] = tt
lines_fit p k (n ∷ ns) = (line_fits p k n, lines_fit (after n.call p) (line_by p k n).position ns)

lines_are_by : (p : Plain) (k : ℕ) (ns : List Numbered) → AllByRecursion (IsBy 1) (lines_by p k ns)
lines_are_by p k [] = tt
lines_are_by p k (n ∷ ns) = (refl, lines_are_by (after n.call p) (line_by p k n).position ns)

-- a line that fits is the one of its call
line_is : (p : Plain) (k : ℕ) (l : Line) → l.caller ≡ 1 → Fits p k l → l ≡ line_by p k (numbered l)
line_is p k l by fits =
    ap (λ w. parts w l.position l.reply l.installed) by
    ∙ ap (λ n. parts 1 n l.reply l.installed) (fits.position ∙ ap (λ b. if b then k + 1 else k) fits.installed)
    ∙ ap (λ r. parts 1 (line_by p k (numbered l)).position r l.installed) fits.reply
    ∙ ap (parts 1 (line_by p k (numbered l)).position (cell l.call p).reply) fits.installed
  where
    parts : ℕ → ℕ → Reply → Bool → Line
    parts w n r b = record { position = n; caller = w; ordinal = l.ordinal; call = l.call; reply = r; installed = b }

abbrev IsAlone : Line → Type 0
IsAlone l = (1 ≤ l.caller) × (l.caller ≤ 1)

is_one : (n : ℕ) → 1 ≤ n → n ≤ 1 → n ≡ 1
is_one n low high = omega arith

-- lines that fit are those of their calls
lines_are : (p : Plain) (k : ℕ) (h : List Line) → FitsFrom p k h → AllByRecursion IsAlone h → h ≡ lines_by p k (calls_of 1 h)
lines_are p k [] fits all = refl
lines_are p k (l ∷ h) fits all =
    let by : l.caller ≡ 1 = is_one l.caller all.0.0 all.0.1 in
    let this = line_is p k l by fits.0 in
    let rest = lines_are (after l.call p) l.position h fits.1 all.1 in
    let those : calls_of 1 (l ∷ h) ≡ numbered l ∷ calls_of 1 h =
    ap (λ b. map numbered (cond b (l ∷ filter (λ m. eqb m.caller 1) h) (filter (λ m. eqb m.caller 1) h))) (eq-eqb l.caller 1 by) in
    ap (λ m. m ∷ h) this
    ∙ ap (λ hs. line_by p k (numbered l) ∷ hs) (rest ∙ ap (λ j. lines_by (after l.call p) j (calls_of 1 h)) (ap (λ m. m.position) this))
    ∙ sym (ap (lines_by p k) those)

-- the lines of more calls follow on those of the first ones
lines_append : (p : Plain) (k : ℕ) (ms ns : List Numbered)
    → lines_by p k (ms ++ ns) ≡ lines_by p k ms ++ lines_by (last_value p (lines_by p k ms)) (position_after k (lines_by p k ms)) ns
lines_append p k [] ns = refl
lines_append p k (m ∷ ms) ns =
    let q = after m.call p in
    let j = (line_by p k m).position in
    ap (λ h. line_by p k m ∷ h) (lines_append q j ms ns)
    ∙ ap (λ v. line_by p k m ∷ (lines_by q j ms ++ lines_by (last_value v (lines_by q j ms)) (position_after j (lines_by q j ms)) ns))
    (sym (value_of_line p k (line_by p k m) (line_fits p k m)))

abbrev HasLower : ℕ → Numbered → Type 0
HasLower o n = n.ordinal < o

lines_earlier : (o : ℕ) (p : Plain) (k : ℕ) (ns : List Numbered) → AllByRecursion (HasLower o) ns → AllByRecursion (IsEarlier o) (lines_by p k ns)
lines_earlier o p k [] all = tt
lines_earlier o p k (n ∷ ns) all = (all.0, lines_earlier o (after n.call p) (line_by p k n).position ns all.1)

-- ---- cells, by the deeds of the one worker

abbrev lines_of_cell : List Deed → CellReport → List Line
lines_of_cell ds c = lines_by c.first 0 (calls_at c.cell.name ds)

abbrev cell_by : List Deed → CellReport → CellReport
cell_by ds c = record { cell = c.cell; first = c.first; lines = lines_of_cell ds c; last = last_value c.first (lines_of_cell ds c) }

-- the value and the position of a cell after some deeds
abbrev value_by : List Deed → CellReport → Plain
value_by ds c = last_value c.first (lines_of_cell ds c)

abbrev position_by : List Deed → CellReport → ℕ
position_by ds c = position_after 0 (lines_of_cell ds c)

-- a cell that was run has the lines of the worker's deeds; one that is declared alike has the same first value
cell_is : (ds : List Deed) (c d : CellReport) → d.cell ≡ c.cell → IsCellRun 1 c → IsCellRun 1 d → Whole (calls_at d.cell.name ds) 1 d.lines → d ≡ cell_by ds c
cell_is ds c d same run on whole =
    let first : d.first ≡ c.first = ok_is (first_value c.cell.kind c.cell.values) d.first c.first
    (sym (ap (λ e. first_value e.kind e.values) same) ∙ on.first) run.first in
    let lines : d.lines ≡ lines_of_cell ds c = lines_are d.first 0 d.lines on.legal.steps on.callers ∙ ap (lines_by d.first 0) whole
    ∙ ap (λ p. lines_by p 0 (calls_at d.cell.name ds)) first ∙ ap (λ e. lines_by c.first 0 (calls_at e.name ds)) same in
    ap (λ e. parts e d.first d.lines d.last) same ∙ ap (λ v. parts c.cell d.first d.lines v) (on.last)
    ∙ ap (λ p. parts c.cell p d.lines (last_value p d.lines)) first ∙ ap (λ h. parts c.cell c.first h (last_value c.first h)) lines
  where
    parts : CellDecl → Plain → List Line → Plain → CellReport
    parts e p h v = record { cell = e; first = p; lines = h; last = v }

    ok_is : (r : Result Plain Refusal) (p q : Plain) → r ≡ Ok p → r ≡ Ok q → p ≡ q
    ok_is r p q e f = cc

-- all cells
cells_are : (ds : List Deed) (os cs : List CellReport) → map (λ c. c.cell) cs ≡ map (λ c. c.cell) os → AllByRecursion (IsCellRun 1) os → AllByRecursion (IsCellRun 1) cs
    → AllByRecursion (λ c. Whole (calls_at c.cell.name ds) 1 c.lines) cs → cs ≡ map (cell_by ds) os
cells_are ds [] [] same runs on whole = refl
cells_are ds [] (d ∷ cs) same runs on whole = absurd (let e : (d.cell ∷ map (λ c. c.cell) cs) ≡ [] = same in cc)
cells_are ds (c ∷ os) [] same runs on whole = absurd (let e : [] ≡ (c.cell ∷ map (λ c. c.cell) os) = same in cc)
cells_are ds (c ∷ os) (d ∷ cs) same runs on whole =
    let e : (d.cell ∷ map (λ c. c.cell) cs) ≡ (c.cell ∷ map (λ c. c.cell) os) = same in
    let this : d.cell ≡ c.cell = cc in
    let rest : map (λ c. c.cell) cs ≡ map (λ c. c.cell) os = cc in
    ap (λ x. x ∷ cs) (cell_is ds c d this runs.0 on.0 whole.0) ∙ ap (λ xs. cell_by ds c ∷ xs) (cells_are ds os cs rest runs.1 on.1 whole.1)

-- ---- a cell that is found by its name

abbrev cells_by : List Deed → List CellReport → List CellReport
cells_by ds os = map (cell_by ds) os

named_by : (ds : List Deed) (name : Name) (os : List CellReport) → cell_named name (cells_by ds os) ≡ option_map (cell_by ds) (cell_named name os)
named_by ds name [] = refl
named_by ds name (c ∷ os) = at (bytes_eq c.cell.name name) (named_by ds name os)
  where
    at : (b : Bool) → cell_named name (cells_by ds os) ≡ option_map (cell_by ds) (cell_named name os)
        → cond b (Some (cell_by ds c)) (cell_named name (cells_by ds os)) ≡ option_map (cell_by ds) (cond b (Some c) (cell_named name os))
    at true e = refl
    at false e = e

-- a cell of this name, of which holds what holds of all
record IsNamed (P : CellReport → Type 0) (name : Name) (c : CellReport) : Type 0 where
  is : bytes_eq c.cell.name name ≡ true
  has : P c

cell_is_named : (P : CellReport → Type 0) (name : Name) (os : List CellReport) (c : CellReport) → AllByRecursion P os → cell_named name os ≡ Some c → IsNamed P name c
cell_is_named P name [] c all e = absurd (let f : None ≡ Some c = e in cc)
cell_is_named P name (o ∷ os) c all e = at (bytes_eq o.cell.name name) refl (cell_is_named P name os c all.1) e
  where
    some_is : (x y : CellReport) → Some x ≡ Some y → x ≡ y
    some_is x y e = cc

    at : (b : Bool) → bytes_eq o.cell.name name ≡ b → (cell_named name os ≡ Some c → IsNamed P name c) → cond b (Some o) (cell_named name os) ≡ Some c → IsNamed P name c
    at true is further e = subst (IsNamed P name) (some_is o c e) (record { is = is; has = all.0 })
    at false is further e = further e

-- ---- the line of a deed

bytes_turned : (x y : Name) → bytes_eq x y ≡ true → bytes_eq y x ≡ true
bytes_turned x y e = (bytes_eq-Decides y x).1 (sym ((bytes_eq-Decides x y).0 e))

-- deeds with lower ordinals
abbrev IsLower : ℕ → Deed → Type 0
IsLower o (local_line l) = Unit {0}
IsLower o (on_cell name n) = n.ordinal < o

calls_lower : (o : ℕ) (name : Name) (ds : List Deed) → AllByRecursion (IsLower o) ds → AllByRecursion (HasLower o) (calls_at name ds)
calls_lower o name [] all = tt
calls_lower o name (local_line l ∷ ds) all = calls_lower o name ds all.1
calls_lower o name (on_cell other n ∷ ds) all = at (bytes_eq other name) (calls_lower o name ds all.1)
  where
    at : (b : Bool) → AllByRecursion (HasLower o) (calls_at name ds)
        → AllByRecursion (HasLower o) (cons_option (cond b (Some n) None) (calls_at name ds))
    at true rest = (all.0, rest)
    at false rest = rest

-- where the deed of a call stands among the deeds, the lines of its cell
record StandsAt (c : CellReport) (ds before : List Deed) (n : Numbered) : Type 0 where
  more : List Line
  lines : lines_of_cell ds c ≡ lines_of_cell before c ++ line_by (value_by before c) (position_by before c) n ∷ more

stands_at : (c : CellReport) (ds before rest : List Deed) (name : Name) (n : Numbered) → bytes_eq c.cell.name name ≡ true
    → ds ≡ before ++ (on_cell name n ∷ rest) → StandsAt c ds before n
stands_at c ds before rest name n named e =
    let calls : calls_at c.cell.name ds ≡ calls_at c.cell.name before ++ (n ∷ calls_at c.cell.name rest) =
    ap (calls_at c.cell.name) e ∙ filter_map-append (call_at c.cell.name) before (on_cell name n ∷ rest)
    ∙ ap (λ b. calls_at c.cell.name before ++ cons_option (cond b (Some n) None) (calls_at c.cell.name rest)) (bytes_turned c.cell.name name named) in
    record {
      more = lines_by (after n.call (value_by before c)) (line_by (value_by before c) (position_by before c) n).position (calls_at c.cell.name rest);
      lines = ap (lines_by c.first 0) calls ∙ lines_append c.first 0 (calls_at c.cell.name before) (n ∷ calls_at c.cell.name rest);
    }

-- ---- what each deed is, whatever comes after it

bind_some : {A B : Type 0} (v : Option A) (f : A → Option B) (b : B) → (v >>= f) ≡ Some b → (a : A) × (v ≡ Some a) × (f a ≡ Some b)
bind_some None f b e = absurd (let g : None ≡ Some b = e in cc)
bind_some (Some a) f b e = (a, refl, e)

some_is : {A : Type 0} (x y : A) → Some x ≡ Some y → x ≡ y
some_is x y e = cc

map_some : {A B : Type 0} (v : Option A) (f : A → B) (b : B) → option_map f v ≡ Some b → (a : A) × (v ≡ Some a) × (f a ≡ b)
map_some None f b e = absurd (let g : None ≡ Some b = e in cc)
map_some (Some a) f b e = (a, refl, some_is (f a) b e)

-- whether a factory runs where the value is p, at position k
abbrev probe_now : Val → Plain → ℕ → Probe
probe_now key p k = if is_some (value_in key p) then Idle else Ran k

-- what a command comes to, by the deeds before it
abbrev read_next : List CellReport → List Deed → ℕ → Name → Name → Locals → Option Done
read_next os before o name x s = cell_named name os >>= λ c. Some (done_by_call o name calls.Read (bind x (collection (value_read (value_by before c))) s))

abbrev made_next : List CellReport → List Deed → ℕ → Name → Val → Factory → Locals → Option Done
made_next os before o name k make s = cell_named name os >>= λ c.
    Some (done_by_call o name (calls.GetOrAddMade k make (probe_now k (value_by before c) (position_by before c))) s)

abbrev call_next : ℕ → Command → Option (Name × PlainCall) → Locals → Option Done
call_next o command (Some (name, call)) s = Some (done_by_call o name call s)
call_next o command None s = option_map (done_locally o command) (local command s)

abbrev array_next : ℕ → Command → Name → Name → (List Val → PlainCall) → Locals → Option Done
array_next o command name x call s = array_at s x >>= λ xs. unless_too_many (length xs) o command s (Some (done_by_call o name (call xs) s))

abbrev compare_next : ℕ → Name → Name → Option Name → Locals → Option Done
compare_next o name x y s = array_at s x >>= λ xs. wanted_at s y >>= λ vs.
    unless_too_many (length xs) o (commands.CompareExchange name x y) s
    (unless_too_many (count vs) o (commands.CompareExchange name x y) s (Some (done_by_call o name (calls.CompareExchange xs vs) s)))

abbrev deed_next : List CellReport → List Deed → ℕ → Command → Locals → Option Done
deed_next os before o (commands.Read name x) s = read_next os before o name x s
deed_next os before o (commands.Publish name x) s = collection_at s x >>= λ p.
    unless_too_many (count p.values) o (commands.Publish name x) s (Some (done_by_call o name (calls.Publish p) s))
deed_next os before o (commands.Exchange name x) s = array_next o (commands.Exchange name x) name x calls.Exchange s
deed_next os before o (commands.CompareExchange name x y) s = compare_next o name x y s
deed_next os before o (commands.Initialize name x) s = array_next o (commands.Initialize name x) name x calls.Initialize s
deed_next os before o (commands.GetOrAddMade name k make) s = made_next os before o name k make s
deed_next os before o command s = call_next o command (call_of command) s

-- the probes of the lines that the worker's deeds make of the cells
abbrev MayProbeAll : List Deed → List CellReport → Type 0
MayProbeAll ds os = AllByRecursion (λ c. ProbesFrom c.first [] (lines_of_cell ds c)) os

-- a deed of the worker, among deeds that the cells' histories come from
record IsDeed (os : List CellReport) (ds before rest : List Deed) (o : ℕ) (a : Done) : Type 0 where
  there : ds ≡ before ++ (a.deed ∷ rest)
  lower : AllByRecursion (IsLower o) before
  probes : MayProbeAll ds os

-- the cell and the line of a call that is among the deeds
record IsCallAt (os : List CellReport) (ds before : List Deed) (name : Name) (n : Numbered) (d : CellReport) (l : Line) : Type 0 where
  cell : CellReport
  found : cell_named name os ≡ Some cell
  reported : d ≡ cell_by ds cell
  stands : StandsAt cell ds before n
  line : l ≡ line_by (value_by before cell) (position_by before cell) n
  probes : ProbesFrom cell.first [] (lines_of_cell ds cell)

call_at_deed : (os : List CellReport) (ds before rest : List Deed) (o : ℕ) (name : Name) (n : Numbered) (d : CellReport) (l : Line)
    → ds ≡ before ++ (on_cell name n ∷ rest) → AllByRecursion (IsLower o) before → MayProbeAll ds os → n.ordinal ≡ o
    → cell_named name (cells_by ds os) ≡ Some d → line_of 1 o d.lines ≡ Some l → IsCallAt os ds before name n d l
call_at_deed os ds before rest o name n d l there lower probes at named line =
    let m = map_some (cell_named name os) (cell_by ds) d (sym (named_by ds name os) ∙ named) in
    let c = m.0 in
    let is = cell_is_named (λ c. ProbesFrom c.first [] (lines_of_cell ds c)) name os c probes m.1 in
    let stands = stands_at c ds before rest name n is.is there in
    let this = line_by (value_by before c) (position_by before c) n in
    let found : line_of 1 o (lines_of_cell ds c) ≡ Some this = ap (line_of 1 o) stands.lines
    ∙ line_found 1 o (lines_of_cell before c) this stands.more (lines_earlier o c.first 0 (calls_at c.cell.name before) (calls_lower o c.cell.name before lower)) refl at in
    let lines : d.lines ≡ lines_of_cell ds c = ap (λ (e : CellReport). e.lines) (sym m.2) in
    let there : line_of 1 o d.lines ≡ Some this = ap (line_of 1 o) lines ∙ found in
    record { cell = c; found = m.1; reported = sym m.2; stands = stands; line = line_is (line_of 1 o d.lines) l this line there; probes = is.has }
  where
    line_is : (v : Option Line) (x y : Line) → v ≡ Some x → v ≡ Some y → x ≡ y
    line_is v x y e f = cc

-- `read`
value_of_read : (c : CellReport) (ds before : List Deed) (n : Numbered) (l : Line) → StandsAt c ds before n → n.call ≡ calls.Read
    → l ≡ line_by (value_by before c) (position_by before c) n → value_then (cell_by ds c) l ≡ value_by before c
value_of_read c ds before n l stands reads is =
    let q = value_by before c in
    let this = line_by q (position_by before c) n in
    ap (λ m. value_at c.first (lines_of_cell ds c) m.position) is
    ∙ ap (λ h. value_at c.first h this.position) stands.lines
    ∙ value_there c.first 0 (lines_of_cell before c) this stands.more (subst (FitsFrom c.first 0) stands.lines (lines_fit c.first 0 (calls_at c.cell.name ds)))
    ∙ ap (λ k. after k q) reads

-- what a read comes to where it finds this cell and this line
abbrev read_at : ℕ → Name → Name → Locals → CellReport → Line → Done
read_at o name x s d l = done_by_call o name calls.Read (bind x (collection (value_read (value_then d l))) s)

done_is : (x y : Done) → Some y ≡ Some x → x ≡ y
done_is x y e = cc

read_is_next : (os : List CellReport) (ds before rest : List Deed) (o : ℕ) (name x : Name) (s : Locals) (a : Done) → IsDeed os ds before rest o a
    → read_done (cells_by ds os) 1 o name x s ≡ Some a → read_next os before o name x s ≡ Some a
read_is_next os ds before rest o name x s a deed e =
    let f = bind_some (cell_named name (cells_by ds os)) (λ d. line_of 1 o d.lines >>= λ l. Some (read_at o name x s d l)) a e in
    let d = f.0 in
    let g = bind_some (line_of 1 o d.lines) (λ l. Some (read_at o name x s d l)) a f.2 in
    let l = g.0 in
    let n : Numbered = record { ordinal = o; call = calls.Read } in
    let there : ds ≡ before ++ (on_cell name n ∷ rest) = deed.there ∙ ap (λ (t : Done). before ++ (t.deed ∷ rest)) (done_is a (read_at o name x s d l) g.2) in
    let c = call_at_deed os ds before rest o name n d l there deed.lower deed.probes refl f.1 g.1 in
    let value : value_then d l ≡ value_by before c.cell = ap (λ r. value_then r l) c.reported ∙ value_of_read c.cell ds before n l c.stands refl c.line in
    ap (λ v. v >>= λ r. Some (done_by_call o name calls.Read (bind x (collection (value_read (value_by before r))) s))) c.found
    ∙ ap (λ p. Some (done_by_call o name calls.Read (bind x (collection (value_read p)) s))) (sym value)
    ∙ g.2

-- `getoraddf`
abbrev made_at : ℕ → Name → Val → Factory → Locals → Val × Probe → Done
made_at o name k make s p = done_by_call o name (calls.GetOrAddMade k make p.1) s

-- the probe that the line of a deed may have is the one of the value then
probe_is_now : (c : CellReport) (ds before : List Deed) (o : ℕ) (k : Val) (make : Factory) (probe : Probe)
    → StandsAt c ds before (record { ordinal = o; call = calls.GetOrAddMade k make probe }) → ProbesFrom c.first [] (lines_of_cell ds c)
    → probe ≡ probe_now k (value_by before c) (position_by before c)
probe_is_now c ds before o k make probe stands probes = by probe (there stands probes)
  where
    there : StandsAt c ds before (record { ordinal = o; call = calls.GetOrAddMade k make probe }) → ProbesFrom c.first [] (lines_of_cell ds c)
        → MayProbe c.first (lines_of_cell before c) 1 (Some (k, probe))
    there stands probes =
        probe_there c.first [] (lines_of_cell before c)
        (line_by (value_by before c) (position_by before c) (record { ordinal = o; call = calls.GetOrAddMade k make probe }))
        stands.more (subst (ProbesFrom c.first []) stands.lines probes)

    none_or_some : (v : Option Val) → is_none v ≡ true → is_some v ≡ false
    none_or_some None e = refl
    none_or_some (Some u) e = absurd (let f : false ≡ true = e in cc)

    same_position : (m j : ℕ) → m ≤ j → j ≤ m → j ≡ m
    same_position m j low high = omega arith

    append-nil : (xs : List Line) → xs ++ [] ≡ xs
    append-nil [] = refl
    append-nil (x ∷ xs) = ap (λ ys. x ∷ ys) (append-nil xs)

    by : (p : Probe) → MayProbe c.first (lines_of_cell before c) 1 (Some (k, p)) → p ≡ probe_now k (value_by before c) (position_by before c)
    by Idle may = sym (ap (λ b. if b then Idle else Ran (position_by before c)) may)
    by (Ran j) may =
        let h = lines_of_cell before c in
        let fits = lines_fit c.first 0 (calls_at c.cell.name before) in
        let by_one : position_of 1 0 h ≡ position_by before c = position_of_all 1 0 h (lines_are_by c.first 0 (calls_at c.cell.name before)) in
        let low : position_by before c ≤ j = subst (λ m. m ≤ j) by_one may.seen in
        let at : j ≡ position_by before c = same_position (position_by before c) j low may.past in
        let value : value_at c.first h j ≡ value_by before c =
        ap (λ g. value_at c.first g j) (sym (append-nil h)) ∙ value_past c.first 0 h [] j fits low in
        let absent : is_some (value_in k (value_by before c)) ≡ false =
        none_or_some (value_in k (value_by before c)) (ap (λ p. is_none (value_in k p)) (sym value) ∙ may.absent) in
        ap Ran at ∙ sym (ap (λ b. if b then Idle else Ran (position_by before c)) absent)

made_is_next : (os : List CellReport) (ds before rest : List Deed) (o : ℕ) (name : Name) (k : Val) (make : Factory) (s : Locals) (a : Done) → IsDeed os ds before rest o a
    → made_done (cells_by ds os) 1 o name k make s ≡ Some a → made_next os before o name k make s ≡ Some a
made_is_next os ds before rest o name k make s a deed e =
    let f = bind_some (cell_named name (cells_by ds os)) (λ d. line_of 1 o d.lines >>= λ l. probe_of l.call >>= λ p. Some (made_at o name k make s p)) a e in
    let d = f.0 in
    let g = bind_some (line_of 1 o d.lines) (λ l. probe_of l.call >>= λ p. Some (made_at o name k make s p)) a f.2 in
    let l = g.0 in
    let h = bind_some (probe_of l.call) (λ p. Some (made_at o name k make s p)) a g.2 in
    let p = h.0 in
    let n : Numbered = record { ordinal = o; call = calls.GetOrAddMade k make p.1 } in
    let there : ds ≡ before ++ (on_cell name n ∷ rest) = deed.there ∙ ap (λ (t : Done). before ++ (t.deed ∷ rest)) (done_is a (made_at o name k make s p) h.2) in
    let c = call_at_deed os ds before rest o name n d l there deed.lower deed.probes refl f.1 g.1 in
    let now : p.1 ≡ probe_now k (value_by before c.cell) (position_by before c.cell) = probe_is_now c.cell ds before o k make p.1 c.stands c.probes in
    ap (λ v. v >>= λ r. Some (done_by_call o name (calls.GetOrAddMade k make (probe_now k (value_by before r) (position_by before r))) s)) c.found
    ∙ ap (λ q. Some (done_by_call o name (calls.GetOrAddMade k make q) s)) (sym now)
    ∙ h.2

-- the other commands stand on no history but for whether their line is there
call_is_next : (cells : List CellReport) (o : ℕ) (name : Name) (call : PlainCall) (s : Locals) (a : Done) → call_on cells 1 o name call s ≡ Some a
    → Some (done_by_call o name call s) ≡ Some a
call_is_next cells o name call s a e =
    let f = bind_some (cell_named name cells) (λ c. line_of 1 o c.lines >>= λ l. Some (done_by_call o name call s)) a e in
    (bind_some (line_of 1 o (f.0).lines) (λ l. Some (done_by_call o name call s)) a f.2).2

by_call_is_next : (cells : List CellReport) (o : ℕ) (command : Command) (call : Option (Name × PlainCall)) (s : Locals) (a : Done)
    → deed_by_call cells 1 o command call s ≡ Some a → call_next o command call s ≡ Some a
by_call_is_next cells o command None s a e = e
by_call_is_next cells o command (Some (name, call)) s a e = call_is_next cells o name call s a e

unless_is : (b : Bool) (t a : Done) (u v : Option Done) → (u ≡ Some a → v ≡ Some a) → (if b then Some t else u) ≡ Some a → (if b then Some t else v) ≡ Some a
unless_is true t a u v f e = e
unless_is false t a u v f e = f e

array_is_next : (cells : List CellReport) (o : ℕ) (command : Command) (name x : Name) (call : List Val → PlainCall) (s : Locals) (a : Done)
    → array_done cells 1 o command name x call s ≡ Some a → array_next o command name x call s ≡ Some a
array_is_next cells o command name x call s a e = at (array_at s x) e
  where
    at : (v : Option (List Val)) → (v >>= λ xs. unless_too_many (length xs) o command s (call_on cells 1 o name (call xs) s)) ≡ Some a
        → (v >>= λ xs. unless_too_many (length xs) o command s (Some (done_by_call o name (call xs) s))) ≡ Some a
    at None e = e
    at (Some xs) e = unless_is (nat_lt PUBLISH_LIMIT (length xs)) (refuse_publish (length xs) o command s) a (call_on cells 1 o name (call xs) s)
        (Some (done_by_call o name (call xs) s)) (call_is_next cells o name (call xs) s a) e

publish_is_next : (cells : List CellReport) (o : ℕ) (command : Command) (name : Name) (v : Option Plain) (s : Locals) (a : Done)
    → (v >>= λ p. unless_too_many (count p.values) o command s (call_on cells 1 o name (calls.Publish p) s)) ≡ Some a
    → (v >>= λ p. unless_too_many (count p.values) o command s (Some (done_by_call o name (calls.Publish p) s))) ≡ Some a
publish_is_next cells o command name None s a e = e
publish_is_next cells o command name (Some p) s a e = unless_is (nat_lt PUBLISH_LIMIT (count p.values)) (refuse_publish (count p.values) o command s) a
    (call_on cells 1 o name (calls.Publish p) s) (Some (done_by_call o name (calls.Publish p) s)) (call_is_next cells o name (calls.Publish p) s a) e

compare_is_next : (cells : List CellReport) (o : ℕ) (name x : Name) (y : Option Name) (s : Locals) (a : Done)
    → compare_done cells 1 o name x y s ≡ Some a → compare_next o name x y s ≡ Some a
compare_is_next cells o name x y s a e = at (array_at s x) (wanted_at s y) e
  where
    at : (v : Option (List Val)) (w : Option Values)
        → (v >>= λ xs. w >>= λ vs. unless_too_many (length xs) o (commands.CompareExchange name x y) s (unless_too_many (count vs) o (commands.CompareExchange name x y) s (call_on cells 1 o name (calls.CompareExchange xs vs) s))) ≡ Some a
        → (v >>= λ xs. w >>= λ vs. unless_too_many (length xs) o (commands.CompareExchange name x y) s (unless_too_many (count vs) o (commands.CompareExchange name x y) s (Some (done_by_call o name (calls.CompareExchange xs vs) s)))) ≡ Some a
    at None w e = e
    at (Some xs) None e = e
    at (Some xs) (Some vs) e =
        unless_is (nat_lt PUBLISH_LIMIT (length xs)) (refuse_publish (length xs) o (commands.CompareExchange name x y) s) a
        (unless_too_many (count vs) o (commands.CompareExchange name x y) s (call_on cells 1 o name (calls.CompareExchange xs vs) s))
        (unless_too_many (count vs) o (commands.CompareExchange name x y) s (Some (done_by_call o name (calls.CompareExchange xs vs) s)))
        (unless_is (nat_lt PUBLISH_LIMIT (count vs)) (refuse_publish (count vs) o (commands.CompareExchange name x y) s) a
        (call_on cells 1 o name (calls.CompareExchange xs vs) s) (Some (done_by_call o name (calls.CompareExchange xs vs) s))
        (call_is_next cells o name (calls.CompareExchange xs vs) s a)) e

deed_is_next : (os : List CellReport) (ds before rest : List Deed) (o : ℕ) (command : Command) (s : Locals) (a : Done) → IsDeed os ds before rest o a
    → deed_of (cells_by ds os) 1 o command s ≡ Some a → deed_next os before o command s ≡ Some a
deed_is_next os ds before rest o (commands.Read name x) s a deed e = read_is_next os ds before rest o name x s a deed e
deed_is_next os ds before rest o (commands.Publish name x) s a deed e = publish_is_next (cells_by ds os) o (commands.Publish name x) name (collection_at s x) s a e
deed_is_next os ds before rest o (commands.Exchange name x) s a deed e = array_is_next (cells_by ds os) o (commands.Exchange name x) name x calls.Exchange s a e
deed_is_next os ds before rest o (commands.CompareExchange name x y) s a deed e = compare_is_next (cells_by ds os) o name x y s a e
deed_is_next os ds before rest o (commands.Initialize name x) s a deed e = array_is_next (cells_by ds os) o (commands.Initialize name x) name x calls.Initialize s a e
deed_is_next os ds before rest o (commands.GetOrAddMade name k make) s a deed e = made_is_next os ds before rest o name k make s a deed e
deed_is_next os ds before rest o command s a deed e = by_call_is_next (cells_by ds os) o command (call_of command) s a e

-- ---- the deeds of a part, and of all parts

-- the deed of a command has its ordinal
call_lower : (o : ℕ) (command : Command) (call : Option (Name × PlainCall)) (s : Locals) (a : Done) → call_next o command call s ≡ Some a → IsLower (o + 1) a.deed
call_lower o command (Some (name, call)) s a e = subst (λ (d : Done). IsLower (o + 1) d.deed) (sym (done_is a (done_by_call o name call s) e)) (up o)
  where
    up : (m : ℕ) → m < m + 1
    up m = omega arith
call_lower o command None s a e =
    let m = map_some (local command s) (done_locally o command) a e in
    subst (λ (d : Done). IsLower (o + 1) d.deed) m.2 tt

unless_lower : (n o : ℕ) (command : Command) (s : Locals) (done : Option Done) (a : Done) → (done ≡ Some a → IsLower (o + 1) a.deed)
    → unless_too_many n o command s done ≡ Some a → IsLower (o + 1) a.deed
unless_lower n o command s done a f e = at (nat_lt PUBLISH_LIMIT n) e
  where
    at : (b : Bool) → (if b then Some (refuse_publish n o command s) else done) ≡ Some a → IsLower (o + 1) a.deed
    at true e = subst (λ (d : Done). IsLower (o + 1) d.deed) (sym (done_is a (refuse_publish n o command s) e)) tt
    at false e = f e

next_lower : (os : List CellReport) (before : List Deed) (o : ℕ) (command : Command) (s : Locals) (a : Done) → deed_next os before o command s ≡ Some a → IsLower (o + 1) a.deed
next_lower os before o (commands.Read name x) s a e =
    let f = bind_some (cell_named name os) (λ c. Some (done_by_call o name calls.Read (bind x (collection (value_read (value_by before c))) s))) a e in
    call_lower o (commands.Read name x) (Some (name, calls.Read)) (bind x (collection (value_read (value_by before f.0))) s) a f.2
next_lower os before o (commands.Publish name x) s a e =
    let f = bind_some (collection_at s x) (λ p. unless_too_many (count p.values) o (commands.Publish name x) s (Some (done_by_call o name (calls.Publish p) s))) a e in
    unless_lower (count (f.0).values) o (commands.Publish name x) s (Some (done_by_call o name (calls.Publish f.0) s)) a (call_lower o (commands.Publish name x) (Some (name, calls.Publish f.0)) s a) f.2
next_lower os before o (commands.Exchange name x) s a e =
    let f = bind_some (array_at s x) (λ xs. unless_too_many (length xs) o (commands.Exchange name x) s (Some (done_by_call o name (calls.Exchange xs) s))) a e in
    unless_lower (length f.0) o (commands.Exchange name x) s (Some (done_by_call o name (calls.Exchange f.0) s)) a (call_lower o (commands.Exchange name x) (Some (name, calls.Exchange f.0)) s a) f.2
next_lower os before o (commands.CompareExchange name x y) s a e =
    let command : Command = commands.CompareExchange name x y in
    let f = bind_some (array_at s x) (λ xs. wanted_at s y >>= λ vs. unless_too_many (length xs) o command s (unless_too_many (count vs) o command s (Some (done_by_call o name (calls.CompareExchange xs vs) s)))) a e in
    let g = bind_some (wanted_at s y) (λ vs. unless_too_many (length f.0) o command s (unless_too_many (count vs) o command s (Some (done_by_call o name (calls.CompareExchange f.0 vs) s)))) a f.2 in
    unless_lower (length f.0) o command s (unless_too_many (count g.0) o command s (Some (done_by_call o name (calls.CompareExchange f.0 g.0) s))) a
    (unless_lower (count g.0) o command s (Some (done_by_call o name (calls.CompareExchange f.0 g.0) s)) a (call_lower o command (Some (name, calls.CompareExchange f.0 g.0)) s a)) g.2
next_lower os before o (commands.Initialize name x) s a e =
    let f = bind_some (array_at s x) (λ xs. unless_too_many (length xs) o (commands.Initialize name x) s (Some (done_by_call o name (calls.Initialize xs) s))) a e in
    unless_lower (length f.0) o (commands.Initialize name x) s (Some (done_by_call o name (calls.Initialize f.0) s)) a (call_lower o (commands.Initialize name x) (Some (name, calls.Initialize f.0)) s a) f.2
next_lower os before o (commands.GetOrAddMade name k make) s a e =
    let f = bind_some (cell_named name os) (λ c. Some (done_by_call o name (calls.GetOrAddMade k make (probe_now k (value_by before c) (position_by before c))) s)) a e in
    call_lower o (commands.GetOrAddMade name k make) (Some (name, calls.GetOrAddMade k make (probe_now k (value_by before f.0) (position_by before f.0)))) s a f.2
next_lower os before o command s a e = call_lower o command (call_of command) s a e

raised : (o m : ℕ) → o ≤ m → (d : Deed) → IsLower o d → IsLower m d
raised o m le (local_line l) low = tt
raised o m le (on_cell name n) low = omega arith

all_raised : (o m : ℕ) → o ≤ m → (ds : List Deed) → AllByRecursion (IsLower o) ds → AllByRecursion (IsLower m) ds
all_raised o m le [] all = tt
all_raised o m le (d ∷ ds) all = (raised o m le d all.0, all_raised o m le ds all.1)

all_on : (o : ℕ) (ds es : List Deed) → AllByRecursion (IsLower o) ds → AllByRecursion (IsLower o) es → AllByRecursion (IsLower o) (ds ++ es)
all_on o [] es all more = more
all_on o (d ∷ ds) es all more = (all.0, all_on o ds es all.1 more)

-- deeds that a part of the worker's commands comes to, in the histories that all of its deeds come to
record PartDeeds (os : List CellReport) (ds before part rest : List Deed) (o : ℕ) (cs : List Command) (s : Locals) : Type 0 where
  are : deeds_of (cells_by ds os) 1 o cs s ≡ Some part
  there : ds ≡ before ++ (part ++ rest)
  lower : AllByRecursion (IsLower o) before
  probes : MayProbeAll ds os

-- the first deed, and those after it
record FirstDeed (os : List CellReport) (ds before part rest : List Deed) (o : ℕ) (c : Command) (cs : List Command) (s : Locals) : Type 0 where
  done : Done
  others : List Deed
  split : part ≡ done.deed ∷ others
  next : deed_next os before o c s ≡ Some done
  lower : IsLower (o + 1) done.deed
  later : PartDeeds os ds (before ++ (done.deed ∷ [])) others rest (o + 1) cs done.after

first_deed : (os : List CellReport) (ds before part rest : List Deed) (o : ℕ) (c : Command) (cs : List Command) (s : Locals)
    → PartDeeds os ds before part rest o (c ∷ cs) s → FirstDeed os ds before part rest o c cs s
first_deed os ds before part rest o c cs s p =
    let cells = cells_by ds os in
    let f = bind_some (deed_of cells 1 o c s) (λ done. option_map (λ es. done.deed ∷ es) (deeds_of cells 1 (o + 1) cs done.after)) part p.are in
    let a = f.0 in
    let g = map_some (deeds_of cells 1 (o + 1) cs a.after) (λ es. a.deed ∷ es) part f.2 in
    let others = g.0 in
    let there : ds ≡ before ++ (a.deed ∷ (others ++ rest)) = p.there ∙ ap (λ t. before ++ (t ++ rest)) (sym g.2) in
    let next = deed_is_next os ds before (others ++ rest) o c s a (record { there = there; lower = p.lower; probes = p.probes }) f.1 in
    let low = next_lower os before o c s a next in
    record {
      done = a;
      others = others;
      split = sym g.2;
      next = next;
      lower = low;
      later = record {
        are = g.1;
        there = there ∙ sym (append_assoc before (a.deed ∷ []) (others ++ rest));
        lower = all_on (o + 1) before (a.deed ∷ []) (all_raised o (o + 1) (up o) before p.lower) (low, tt);
        probes = p.probes;
      };
    }
  where
    up : (m : ℕ) → m ≤ m + 1
    up m = omega arith

same_part : (os : List CellReport) (ds es before dp ep dr er : List Deed) (o : ℕ) (cs : List Command) (s : Locals)
    → PartDeeds os ds before dp dr o cs s → PartDeeds os es before ep er o cs s → dp ≡ ep
same_part os ds es before dp ep dr er o [] s p q = some_is dp ep p.are q.are
  where
    some_is : (x y : List Deed) → Some [] ≡ Some x → Some [] ≡ Some y → x ≡ y
    some_is x y e f = cc
same_part os ds es before dp ep dr er o (c ∷ cs) s p q =
    let f = first_deed os ds before dp dr o c cs s p in
    let g = first_deed os es before ep er o c cs s q in
    let a : f.done ≡ g.done = next_is (deed_next os before o c s) f.done g.done f.next g.next in
    let later : PartDeeds os es (before ++ ((f.done).deed ∷ [])) g.others er (o + 1) cs (f.done).after =
    subst (λ (d : Done). PartDeeds os es (before ++ (d.deed ∷ [])) g.others er (o + 1) cs d.after) (sym a) g.later in
    let rest : f.others ≡ g.others = same_part os ds es (before ++ ((f.done).deed ∷ [])) f.others g.others dr er (o + 1) cs (f.done).after f.later later in
    f.split ∙ ap (λ (d : Done). d.deed ∷ f.others) a ∙ ap (λ ds. (g.done).deed ∷ ds) rest ∙ sym g.split
  where
    next_is : (v : Option Done) (x y : Done) → v ≡ Some x → v ≡ Some y → x ≡ y
    next_is v x y e f = cc

part_lower : (os : List CellReport) (ds before part rest : List Deed) (o : ℕ) (cs : List Command) (s : Locals)
    → PartDeeds os ds before part rest o cs s → AllByRecursion (IsLower (o + length cs)) part
part_lower os ds before part rest o [] s p = subst (AllByRecursion (IsLower (o + 0))) (some_is part p.are) tt
  where
    some_is : (x : List Deed) → Some [] ≡ Some x → [] ≡ x
    some_is x e = cc
part_lower os ds before part rest o (c ∷ cs) s p =
    let f = first_deed os ds before part rest o c cs s p in
    let all = part_lower os ds (before ++ ((f.done).deed ∷ [])) f.others rest (o + 1) cs (f.done).after f.later in
    let further : o + 1 + length cs ≡ o + suc (length cs) = omega arith in
    subst (AllByRecursion (IsLower (o + suc (length cs)))) (sym f.split)
    (raised (o + 1) (o + suc (length cs)) (far o (length cs)) (f.done).deed f.lower, subst (λ m. AllByRecursion (IsLower m) f.others) further all)
  where
    far : (m n : ℕ) → m + 1 ≤ m + suc n
    far m n = omega arith

-- the deeds of all parts from one on
record WorkDeeds (os : List CellReport) (ds before rest : List Deed) (o : ℕ) (ps : List (List Command)) : Type 0 where
  are : work_from (cells_by ds os) 1 o ps ≡ Some rest
  there : ds ≡ before ++ rest
  lower : AllByRecursion (IsLower o) before
  probes : MayProbeAll ds os

record FirstPart (os : List CellReport) (ds before rest : List Deed) (o : ℕ) (p : List Command) (ps : List (List Command)) : Type 0 where
  part : List Deed
  others : List Deed
  split : rest ≡ part ++ others
  are : PartDeeds os ds before part others o p no_locals
  later : WorkDeeds os ds (before ++ part) others (o + length p) ps

first_part : (os : List CellReport) (ds before rest : List Deed) (o : ℕ) (p : List Command) (ps : List (List Command))
    → WorkDeeds os ds before rest o (p ∷ ps) → FirstPart os ds before rest o p ps
first_part os ds before rest o p ps w =
    let cells = cells_by ds os in
    let f = bind_some (deeds_of cells 1 o p no_locals) (λ part. option_map (λ es. part ++ es) (work_from cells 1 (o + length p) ps)) rest w.are in
    let part = f.0 in
    let g = map_some (work_from cells 1 (o + length p) ps) (λ es. part ++ es) rest f.2 in
    let others = g.0 in
    let there : ds ≡ before ++ (part ++ others) = w.there ∙ ap (λ t. before ++ t) (sym g.2) in
    let are : PartDeeds os ds before part others o p no_locals = record { are = f.1; there = there; lower = w.lower; probes = w.probes } in
    record {
      part = part;
      others = others;
      split = sym g.2;
      are = are;
      later = record {
        are = g.1;
        there = there ∙ sym (append_assoc before part others);
        lower = all_on (o + length p) before part (all_raised o (o + length p) (up o (length p)) before w.lower) (part_lower os ds before part others o p no_locals are);
        probes = w.probes;
      };
    }
  where
    up : (m n : ℕ) → m ≤ m + n
    up m n = omega arith

same_work : (os : List CellReport) (ds es before dr er : List Deed) (o : ℕ) (ps : List (List Command))
    → WorkDeeds os ds before dr o ps → WorkDeeds os es before er o ps → dr ≡ er
same_work os ds es before dr er o [] v w = some_is dr er v.are w.are
  where
    some_is : (x y : List Deed) → Some [] ≡ Some x → Some [] ≡ Some y → x ≡ y
    some_is x y e f = cc
same_work os ds es before dr er o (p ∷ ps) v w =
    let f = first_part os ds before dr o p ps v in
    let g = first_part os es before er o p ps w in
    let part : f.part ≡ g.part = same_part os ds es before f.part g.part f.others g.others o p no_locals f.are g.are in
    let later : WorkDeeds os es (before ++ f.part) g.others (o + length p) ps = subst (λ t. WorkDeeds os es (before ++ t) g.others (o + length p) ps) (sym part) g.later in
    let rest : f.others ≡ g.others = same_work os ds es (before ++ f.part) f.others g.others (o + length p) ps f.later later in
    f.split ∙ ap (λ t. t ++ f.others) part ∙ ap (λ t. g.part ++ t) rest ∙ sym g.split

-- ---- reports

-- what a lawful report of one worker is made of
record IsOne (script : Script) (os : List CellReport) (r : Report) : Type 0 where
  deeds : List Deed
  workers : r.workers ≡ 1
  cells : r.cells ≡ map (cell_by deeds) os
  locals : r.locals ≡ local_lines deeds ∷ []
  work : WorkDeeds os deeds [] deeds 1 (parts_of 1 1 script.parts)

record WorkerDeeds (cells : List CellReport) (work : Option (List Deed)) (lines : Option (List LocalLine)) : Type 0 where
  deeds : List Deed
  are : work ≡ Some deeds
  mine : lines ≡ Some (local_lines deeds)
  calls : AllByRecursion (λ c. Whole (calls_at c.cell.name deeds) 1 c.lines) cells

worker_deeds : (cells : List CellReport) (work : Option (List Deed)) (lines : Option (List LocalLine)) → HasWorked 1 work cells lines → WorkerDeeds cells work lines
worker_deeds cells None None h = absurd h
worker_deeds cells None (Some ls) h = absurd h
worker_deeds cells (Some ds) None h = absurd h
worker_deeds cells (Some ds) (Some ls) h = record { deeds = ds; are = refl; mine = ap Some (sym h.lines); calls = h.calls }

probes_by : (ds : List Deed) (os : List CellReport) → AllByRecursion (IsCellRun 1) (map (cell_by ds) os) → MayProbeAll ds os
probes_by ds [] all = tt
probes_by ds (c ∷ os) all = (all.0.legal.probes, probes_by ds os all.1)

only_list : (ls : List (List LocalLine)) (xs : List LocalLine) → length ls ≡ 1 → slice_get ls 0 ≡ Some xs → ls ≡ xs ∷ []
only_list [] xs one e = absurd (let f : 0 ≡ 1 = one in omega arith)
only_list (y ∷ []) xs one e = let f : Some y ≡ Some xs = e in let g : y ≡ xs = cc in ap (λ z. z ∷ []) g
only_list (y ∷ z ∷ ls) xs one e = absurd (let f : suc (suc (length ls)) ≡ 1 = one in omega arith)

is_one_report : (script : Script) (os : List CellReport) (r : Report) → map (λ c. c.cell) r.cells ≡ map (λ c. c.cell) os → AllByRecursion (IsCellRun 1) os
    → Lawful script 1 r → IsOne script os r
is_one_report script os r same runs lawful =
    let w = worker_deeds r.cells (work_from r.cells 1 1 (parts_of 1 1 script.parts)) (slice_get r.locals 0) (lawful.works 0 first) in
    let cells = cells_are w.deeds os r.cells same runs lawful.runs w.calls in
    record {
      deeds = w.deeds;
      workers = lawful.workers;
      cells = cells;
      locals = only_list r.locals (local_lines w.deeds) lawful.one_list_per_worker w.mine;
      work = record {
        are = ap (λ cs. work_from cs 1 1 (parts_of 1 1 script.parts)) (sym cells) ∙ w.are;
        there = refl;
        lower = tt;
        probes = probes_by w.deeds os (subst (AllByRecursion (IsCellRun 1)) cells lawful.runs);
      };
    }
  where
    first : 0 < 1
    first = omega arith

pub has_one_report : HasOneReport
has_one_report script r q lawful other =
    let one = is_one_report script r.cells r refl lawful.runs lawful in
    let two = is_one_report script r.cells q (other.cells ∙ sym lawful.cells) lawful.runs other in
    let deeds : one.deeds ≡ two.deeds = same_work r.cells one.deeds two.deeds [] one.deeds two.deeds 1 (parts_of 1 1 script.parts) one.work two.work in
    ap (λ w. parts w r.cells r.locals) (one.workers ∙ sym two.workers)
    ∙ ap (λ cs. parts q.workers cs r.locals) (one.cells ∙ ap (λ ds. map (cell_by ds) r.cells) deeds ∙ sym two.cells)
    ∙ ap (parts q.workers q.cells) (one.locals ∙ ap (λ ds. local_lines ds ∷ []) deeds ∙ sym two.locals)
  where
    parts : ℕ → List CellReport → List (List LocalLine) → Report
    parts w cs ls = record { workers = w; cells = cs; locals = ls }
