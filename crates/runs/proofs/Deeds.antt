-- The deed of a command, in reports that have its call.
use Rattle.std.proofs.Common.{◌≡◌, ℕ, zero, suc, ◌+◌, ◌<◌, ◌≤◌, Bool, true, false, ◌&&◌, eqb, List, [], ◌∷◌, ◌++◌, length, get_or, None, Some, refl, ap, sym, subst, ◌∙◌, arith, eq-eqb, ne_eqb}
use Rattle.std.specs.Prelude.{Option, IfSome, option_map, if◌then◌else◌, map, filter_map, nat_lt, bytes_eq, slice_get, slice_index_or}
use Rattle.std.specs.List.{AllByRecursion, cons_option}
use Rattle.std.proofs.lemmas.Option.{none-some}
use Rattle.std.proofs.lemmas.Bool.Decides.{nat_tests}
use Rattle.std.proofs.lemmas.List.{append-nil}
use Rattle.std.proofs.lemmas.Slice.Eq.{bytes_eq-Decides}
use Rattle.plain_model.specs.declared.plain.Plain.{Plain}
use Rattle.plain_model.specs.declared.plain.Kind.{Kind}
use Rattle.imm_base.specs.declared.val.Val.{Val}
use Rattle.plain_model.specs.declared.commands.Factory.{Factory}
use Rattle.plain_model.specs.declared.commands.Probe.{Probe}
use Rattle.plain_model.specs.declared.commands.PlainCall.{PlainCall}
use Rattle.plain_model.specs.declared.commands.PlainCall.TheVariants as calls
use Rattle.plain_model.specs.declared.commands.Command.{Command}
use Rattle.plain_model.specs.declared.commands.Command.TheVariants as commands
use Rattle.plain_model.specs.declared.history.Line.{Line}
use Rattle.plain_model.specs.declared.report.CellDecl.{CellDecl}
use Rattle.plain_model.specs.declared.report.CellReport.{CellReport}
use Rattle.plain_model.specs.declared.report.LocalLine.{LocalLine}
use Rattle.plain_model.specs.declared.limits.TheConstants.{PUBLISH_LIMIT}
use Rattle.plain_model.specs.Plain.{count, is_unset}
use Rattle.plain_model.specs.History.{Numbered, numbered, probe_of}
use Rattle.plain_model.specs.Names.{Name}
use Rattle.plain_model.specs.Locals.{◌>>=◌, Locals, bind, collection, collection_at, local, gives}
use Rattle.plain_model.specs.Work.{Deed, Done, on_cell, local_line, done_by_call, done_locally, refuse_publish, unless_too_many, call_on, deed_of, line_of, cell_named, value_then, value_read, calls_at, call_at, call_of}
use Rattle.plain_model.proofs.SetValues.{value_of_set}
use Rattle.cell_calls.specs.declared.call.CellCall.TheVariants as cells
use Rattle.locals.specs.Results.{can_run}
use Rattle.runs.specs.declared.work.Worker.{Worker}
use Rattle.runs.specs.Places.{cell_place, kinds_of, decls_in, AreApart}
use Rattle.runs.specs.Notes.{Note, Connects, Makes, IsReported, note_at, notes_at}
use Rattle.runs.specs.Calls.{MayCall}
use Rattle.runs.specs.Needs.{Leaves, CanAnswer, CanCall, CanCallOrAnswer, CanDo, IsAnswered}
use Rattle.runs.specs.Works.{MatchCalls, AnswersLocally, IsDone}

-- ---- cells by place and by name

-- the report at the place of a name is the one of that name
pub named : (decls : List CellDecl) (reports : List CellReport) (name : Name) (k : ℕ) (r : CellReport) → decls_in reports ≡ decls → cell_place decls name ≡ k → slice_get reports k ≡ Some r
    → cell_named name reports ≡ Some r
named decls reports name k r is place at = by_reports reports k (ap (λ ds. cell_place ds name) is ∙ place) at
  where
    by_reports : (rs : List CellReport) (k : ℕ) → cell_place (decls_in rs) name ≡ k → slice_get rs k ≡ Some r → cell_named name rs ≡ Some r
    by_reports [] k p at = absurd (none-some r at)
    by_reports (x ∷ rs) k p at = split (bytes_eq x.cell.name name) k p at (by_reports rs)
      where
        split : (b : Bool) (k : ℕ) → (if b then 0 else suc (cell_place (decls_in rs) name)) ≡ k → slice_get (x ∷ rs) k ≡ Some r
            → ((k : ℕ) → cell_place (decls_in rs) name ≡ k → slice_get rs k ≡ Some r → cell_named name rs ≡ Some r) → (if b then Some x else cell_named name rs) ≡ Some r
        split true zero p at rest = at
        split true (suc k) p at rest = absurd (omega arith)
        split false zero p at rest = absurd (omega arith)
        split false (suc k) p at rest = rest k (omega arith) at

clash : (b : Bool) → b ≡ true → b ≡ false → ⊥
clash b t f = cc

same_bytes : (x y : Name) → bytes_eq x y ≡ true → x ≡ y
same_bytes x y e = (bytes_eq-Decides x y).0 e

bytes_same : (x y : Name) → x ≡ y → bytes_eq x y ≡ true
bytes_same x y e = (bytes_eq-Decides x y).1 e

-- of cells whose names differ, the one at a place has a name exactly where it is the place of that name
pub at_place : (decls : List CellDecl) (name : Name) (k : ℕ) (d : CellDecl) → AreApart decls → cell_place decls name < length decls → k < length decls
    → bytes_eq name (get_or decls k d).name ≡ eqb (cell_place decls name) k
at_place [] name k d apart there within = absurd (omega arith)
at_place (e ∷ decls) name k d apart there within = split (bytes_eq e.name name) refl k within there (at_place decls name)
  where
    other : (ds : List CellDecl) (j : ℕ) → AllByRecursion (λ x. bytes_eq e.name x.name ≡ false) ds → j < length ds → bytes_eq e.name (get_or ds j d).name ≡ false
    other [] j all lt = absurd (omega arith)
    other (x ∷ ds) zero all lt = all.0
    other (x ∷ ds) (suc j) all lt = other ds j all.1 (omega arith)

    turned : (x y : Name) (b : Bool) → bytes_eq x y ≡ b → bytes_eq y x ≡ b
    turned x y true is = bytes_same y x (sym (same_bytes x y is))
    turned x y false is = by (bytes_eq y x) refl
      where
        by : (c : Bool) → bytes_eq y x ≡ c → bytes_eq y x ≡ false
        by true at = absurd (clash (bytes_eq x y) (bytes_same x y (sym (same_bytes y x at))) is)
        by false at = at

    next : (a k : ℕ) → eqb a k ≡ eqb (suc a) (suc k)
    next a k = grind (arith, nat_tests)

    split : (b : Bool) → bytes_eq e.name name ≡ b → (k : ℕ) → k < suc (length decls) → (if b then 0 else suc (cell_place decls name)) < suc (length decls)
        → ((j : ℕ) (d : CellDecl) → AreApart decls → cell_place decls name < length decls → j < length decls → bytes_eq name (get_or decls j d).name ≡ eqb (cell_place decls name) j)
        → bytes_eq name (get_or (e ∷ decls) k d).name ≡ eqb (if b then 0 else suc (cell_place decls name)) k
    split true is zero within there rest = turned e.name name true is
    split true is (suc k) within there rest = ap (λ x. bytes_eq x (get_or decls k d).name) (sym (same_bytes e.name name is)) ∙ other decls k apart.0 (omega arith) ∙ sym (ne_eqb 0 (suc k) (λ e. omega arith))
    split false is zero within there rest = turned e.name name false is ∙ sym (ne_eqb (suc (cell_place decls name)) 0 (λ e. omega arith))
    split false is (suc k) within there rest = rest k d apart.1 (omega arith) (omega arith) ∙ next (cell_place decls name) k

-- the place of a cell that is declared is one of the kinds
pub place_within : (decls : List CellDecl) (ks : List Kind) (name : Name) (p : ℕ) → ks ≡ kinds_of decls → p ≡ cell_place decls name → cell_place decls name < length decls → p < length ks
place_within decls ks name p same at lt = let e = ap length same in let f = length_map decls in omega arith
  where
    length_map : (ds : List CellDecl) → length (kinds_of ds) ≡ length ds
    length_map [] = refl
    length_map (d ∷ ds) = ap suc (length_map ds)

-- a kind that is there has a place within
pub kind_within : (decls : List CellDecl) (name : Name) (k : Kind) → slice_get (kinds_of decls) (cell_place decls name) ≡ Some k → cell_place decls name < length decls
kind_within [] name k e = absurd (none-some k e)
kind_within (d ∷ decls) name k e = split (bytes_eq d.name name) e (kind_within decls name k)
  where
    split : (b : Bool) → slice_get (kinds_of (d ∷ decls)) (if b then 0 else suc (cell_place decls name)) ≡ Some k → (slice_get (kinds_of decls) (cell_place decls name) ≡ Some k → cell_place decls name < length decls)
        → (if b then 0 else suc (cell_place decls name)) < length (d ∷ decls)
    split true e rest = omega arith
    split false e rest = let r = rest e in omega arith

-- the call of a note is that of the deed, cell by cell
pub matched : (decls : List CellDecl) (name : Name) (n : Note) → AreApart decls → cell_place decls name ≡ n.place → n.place < length decls
    → MatchCalls decls (on_cell name (numbered n.line) ∷ []) (n ∷ [])
matched decls name n apart place within k d lt =
    ap (λ b. cons_option (if b then Some (numbered n.line) else None) []) (at_place decls name k d apart (let e = place in omega arith) lt ∙ ap (λ j. eqb j k) place)

pub some_same : {A : Type 0} (a b : A) → Some a ≡ Some b → a ≡ b
some_same a b e = cc

-- ---- calls

-- the call of a note, in reports where it stands
call_done : (decls : List CellDecl) (reports : List CellReport) (w o : ℕ) (name : Name) (call : PlainCall) (n : Note) (m : Locals) → decls_in reports ≡ decls → cell_place decls name ≡ n.place
    → numbered n.line ≡ record { ordinal = o; call = call } → IsReported w reports n → call_on reports w o name call m ≡ Some (record { deed = on_cell name (numbered n.line); after = m })
call_done decls reports w o name call n m is place at stands =
    ap (λ c. c >>= λ r. line_of w o r.lines >>= λ l. Some (done_by_call o name call m)) (named decls reports name n.place stands.report is place stands.at)
    ∙ ap (λ l. l >>= λ k. Some (done_by_call o name call m)) (ap (λ i. line_of w i stands.report.lines) (sym (ap (λ (x : Numbered). x.ordinal) at)) ∙ stands.line)
    ∙ ap (λ x. Some (record { deed = on_cell name x; after = m })) (sym at)

module _ {S : Type 0} (makes : S → Note → S → Type 0) (decls : List CellDecl) (apart : AreApart decls) (s s' : S) (name : Name) (o : ℕ) where
  -- a command that makes a call, and binds nothing
  pub call_is_done : (c : Command) (call : PlainCall) (w w' : Worker) → w' ≡ w → Leaves decls c w.names w.names
      → ((reports : List CellReport) (n : ℕ) → deed_of reports n o c w.names ≡ call_on reports n o name call w.names)
      → cell_place decls name < length decls → Makes makes s (cell_place decls name) o call None s' → IsDone makes decls o c s w s' w'
  call_is_done c call w w' same leaves is within h = subst (λ x. IsDone makes decls o c s w s' x) (sym same) (record {
    notes = h.note ∷ [];
    deed = on_cell name (numbered h.note.line);
    connects = (s', h.made, refl);
    lines = sym (append-nil w.lines);
    calls = matched decls name h.note apart (sym h.place) (let e = h.place in omega arith);
    leaves = leaves;
    done = λ n reports at stands. is reports n ∙ call_done decls reports n o name call h.note w.names at (sym h.place) h.numbered stands.0;
  })

  -- a command that reads
  pub read_is_done : (x : Name) (p : Plain) (w w' : Worker) → cell_place decls name < length decls → Makes makes s (cell_place decls name) o calls.Read (Some p) s' → is_unset p.values ≡ false
      → slice_get (kinds_of decls) (cell_place decls name) ≡ Some p.kind → w'.names ≡ bind x (collection p) w.names → w'.lines ≡ w.lines → IsDone makes decls o (commands.Read name x) s w s' w'
  read_is_done x p w w' within h set kind binds same = record {
    notes = h.note ∷ [];
    deed = on_cell name (numbered h.note.line);
    connects = (s', h.made, refl);
    lines = same ∙ sym (append-nil w.lines);
    calls = matched decls name h.note apart (sym h.place) (let e = h.place in omega arith);
    leaves = record { value = p; kind = kind; binds = binds };
    done = λ n reports at stands. read_done n reports at stands.0 ∙ ap (λ m. Some (record { deed = on_cell name (numbered h.note.line); after = m })) (sym binds);
  }
    where
      value : (n : ℕ) (reports : List CellReport) → (t : IsReported n reports h.note) → value_then t.report h.note.line ≡ p
      value n reports t = subst (λ (v : Option Plain). IfSome v (λ q. value_then t.report h.note.line ≡ q)) h.value t.value

      read_done : (n : ℕ) (reports : List CellReport) → decls_in reports ≡ decls → IsReported n reports h.note
          → deed_of reports n o (commands.Read name x) w.names ≡ Some (record { deed = on_cell name (numbered h.note.line); after = bind x (collection p) w.names })
      read_done n reports at t =
          ap (λ c. c >>= λ r. line_of n o r.lines >>= λ l. Some (done_by_call o name calls.Read (bind x (collection (value_read (value_then r l))) w.names))) (named decls reports name h.note.place t.report at (sym h.place) t.at)
          ∙ ap (λ l. l >>= λ k. Some (done_by_call o name calls.Read (bind x (collection (value_read (value_then t.report k))) w.names))) (ap (λ i. line_of n i t.report.lines) (sym (ap (λ (z : Numbered). z.ordinal) h.numbered)) ∙ t.line)
          ∙ ap (λ v. Some (done_by_call o name calls.Read (bind x (collection (value_read v)) w.names))) (value n reports t)
          ∙ ap (λ v. Some (done_by_call o name calls.Read (bind x (collection v) w.names))) (value_of_set p set)
          ∙ ap (λ z. Some (record { deed = on_cell name z; after = bind x (collection p) w.names })) (sym h.numbered)

  -- a command that adds what a factory makes: its line says whether that ran
  pub made_is_done : (k : Val) (make : Factory) (probe : Probe) (w : Worker) → cell_place decls name < length decls → Makes makes s (cell_place decls name) o (calls.GetOrAddMade k make probe) None s'
      → IsDone makes decls o (commands.GetOrAddMade name k make) s w s' w
  made_is_done k make probe w within h = record {
    notes = h.note ∷ [];
    deed = on_cell name (numbered h.note.line);
    connects = (s', h.made, refl);
    lines = sym (append-nil w.lines);
    calls = matched decls name h.note apart (sym h.place) (let e = h.place in omega arith);
    leaves = refl;
    done = λ n reports at stands. made_there n reports at stands.0;
  }
    where
      done_by : Option Line → Option Done
      done_by found = found >>= λ l. probe_of l.call >>= λ p. Some (done_by_call o name (calls.GetOrAddMade k make p.1) w.names)

      made_there : (n : ℕ) (reports : List CellReport) → decls_in reports ≡ decls → IsReported n reports h.note
          → deed_of reports n o (commands.GetOrAddMade name k make) w.names ≡ Some (record { deed = on_cell name (numbered h.note.line); after = w.names })
      made_there n reports at t =
          ap (λ c. c >>= λ r. done_by (line_of n o r.lines)) (named decls reports name h.note.place t.report at (sym h.place) t.at)
          ∙ ap done_by (ap (λ i. line_of n i t.report.lines) (sym (ap (λ (z : Numbered). z.ordinal) h.numbered)) ∙ t.line)
          ∙ ap (λ call. probe_of call >>= λ p. Some (done_by_call o name (calls.GetOrAddMade k make p.1) w.names)) (ap (λ (z : Numbered). z.call) h.numbered)
          ∙ ap (λ z. Some (record { deed = on_cell name z; after = w.names })) (sym h.numbered)

-- a publication that is no call yet
pub published : (x name : Name) (p : Plain) (o : ℕ) (m : Locals) → collection_at m x ≡ Some p → nat_lt PUBLISH_LIMIT (count p.values) ≡ false
    → (reports : List CellReport) (n : ℕ) → deed_of reports n o (commands.Publish name x) m ≡ call_on reports n o name (calls.Publish p) m
published x name p o m is small reports n =
    ap (λ v. v >>= λ q. unless_too_many (count q.values) o (commands.Publish name x) m (call_on reports n o name (calls.Publish q) m)) is
    ∙ ap (λ b. if b then Some (refuse_publish (count p.values) o (commands.Publish name x) m) else call_on reports n o name (calls.Publish p) m) small

pub refused : (x name : Name) (p : Plain) (o : ℕ) (m : Locals) → collection_at m x ≡ Some p → nat_lt PUBLISH_LIMIT (count p.values) ≡ true
    → (reports : List CellReport) (n : ℕ) → deed_of reports n o (commands.Publish name x) m ≡ Some (refuse_publish (count p.values) o (commands.Publish name x) m)
refused x name p o m is large reports n =
    ap (λ v. v >>= λ q. unless_too_many (count q.values) o (commands.Publish name x) m (call_on reports n o name (calls.Publish q) m)) is
    ∙ ap (λ b. if b then Some (refuse_publish (count p.values) o (commands.Publish name x) m) else call_on reports n o name (calls.Publish p) m) large

-- a local line, and no call
pub line_is_done : {S : Type 0} (makes : S → Note → S → Type 0) (decls : List CellDecl) (s : S) (o : ℕ) (c : Command) (l : LocalLine) (w w' : Worker) → Leaves decls c w.names w'.names
    → ((reports : List CellReport) (n : ℕ) → deed_of reports n o c w.names ≡ Some (record { deed = local_line l; after = w'.names })) → w'.lines ≡ w.lines ++ l ∷ [] → IsDone makes decls o c s w s w'
line_is_done makes decls s o c l w w' leaves is lines = record {
  notes = [];
  deed = local_line l;
  connects = refl;
  lines = lines;
  calls = λ k d lt. refl;
  leaves = leaves;
  done = λ n reports at stands. is reports n;
}

-- ---- commands whose arguments alone say the call

-- such a command makes this call, and binds nothing
pub record MakesCall (c : Command) (name : Name) (call : PlainCall) : Type 0 where
  pub deed : (reports : List CellReport) (n o : ℕ) (m : Locals) → deed_of reports n o c m ≡ call_on reports n o name call m
  pub leaves : (decls : List CellDecl) (m : Locals) → Leaves decls c m m
  pub probe : probe_of call ≡ None

calls_alike : (c : Command) (made call : Name × PlainCall) → Some made ≡ Some call → MakesCall c made.0 made.1 → MakesCall c call.0 call.1
calls_alike c made call e h = subst (λ (p : Name × PlainCall). MakesCall c p.0 p.1) (some_same made call e) h

pub makes_call : (c : Command) (name : Name) (call : PlainCall) → call_of c ≡ Some (name, call) → MakesCall c name call
makes_call (commands.Update x op) name call e = calls_alike (commands.Update x op) (x, calls.Update op) (name, call) e (record { deed = λ r n o m. refl; leaves = λ ds m. refl; probe = refl })
makes_call (commands.GetOrAdd x k v) name call e = calls_alike (commands.GetOrAdd x k v) (x, calls.GetOrAdd k v) (name, call) e (record { deed = λ r n o m. refl; leaves = λ ds m. refl; probe = refl })
makes_call (commands.AddOrUpdate x k v t) name call e = calls_alike (commands.AddOrUpdate x k v t) (x, calls.AddOrUpdate k v t) (name, call) e (record { deed = λ r n o m. refl; leaves = λ ds m. refl; probe = refl })
makes_call (commands.TryAdd x k v) name call e = calls_alike (commands.TryAdd x k v) (x, calls.TryAdd k v) (name, call) e (record { deed = λ r n o m. refl; leaves = λ ds m. refl; probe = refl })
makes_call (commands.TryUpdate x k v u) name call e = calls_alike (commands.TryUpdate x k v u) (x, calls.TryUpdate k v u) (name, call) e (record { deed = λ r n o m. refl; leaves = λ ds m. refl; probe = refl })
makes_call (commands.TryRemove x k) name call e = calls_alike (commands.TryRemove x k) (x, calls.TryRemove k) (name, call) e (record { deed = λ r n o m. refl; leaves = λ ds m. refl; probe = refl })
makes_call (commands.Push x v) name call e = calls_alike (commands.Push x v) (x, calls.Push v) (name, call) e (record { deed = λ r n o m. refl; leaves = λ ds m. refl; probe = refl })
makes_call (commands.TryPop x) name call e = calls_alike (commands.TryPop x) (x, calls.TryPop) (name, call) e (record { deed = λ r n o m. refl; leaves = λ ds m. refl; probe = refl })
makes_call (commands.Enqueue x v) name call e = calls_alike (commands.Enqueue x v) (x, calls.Enqueue v) (name, call) e (record { deed = λ r n o m. refl; leaves = λ ds m. refl; probe = refl })
makes_call (commands.TryDequeue x) name call e = calls_alike (commands.TryDequeue x) (x, calls.TryDequeue) (name, call) e (record { deed = λ r n o m. refl; leaves = λ ds m. refl; probe = refl })
makes_call (commands.AddOrUpdateMade x k make t) name call e =
    calls_alike (commands.AddOrUpdateMade x k make t) (x, calls.AddOrUpdateMade k make t) (name, call) e (record { deed = λ r n o m. refl; leaves = λ ds m. refl; probe = refl })
makes_call _ name call e = absurd cc

-- a call that a command can make may be made
pub may_call : (decls : List CellDecl) (c : Command) (m : Locals) (name : Name) (call : PlainCall) → call_of c ≡ Some (name, call) → CanCallOrAnswer decls (call_of c) c m
    → MayCall (kinds_of decls) (cell_place decls name) (cells.Plain call)
may_call decls c m name call e can =
    let h : CanCall decls name call = subst (λ (x : Option (Name × PlainCall)). CanCallOrAnswer decls x c m) e can in
    record { kind = h.kind; at = h.at; suits = h.suits; probe = (makes_call c name call e).probe }

-- ---- local commands

-- a command that can be answered is one of those that are built
local_deed : (reports : List CellReport) (n o : ℕ) (c : Command) (m : Locals) → can_run c m ≡ true → deed_of reports n o c m ≡ option_map (done_locally o c) (local c m)
local_deed reports n o (commands.New x kind src from) m e = refl
local_deed reports n o (commands.Let y x op from) m e = refl
local_deed reports n o (commands.Rekey y x comparer) m e = refl
local_deed reports n o (commands.Ask x query from) m e = refl
local_deed reports n o (commands.Show x) m e = refl
local_deed reports n o (commands.FrozenSet x eq src from) m e = refl
local_deed reports n o (commands.FrozenMap x eq src from) m e = refl
local_deed reports n o _ m e = absurd (clash false e refl)

answer_leaves : (decls : List CellDecl) (c : Command) (s after : Locals) → can_run c s ≡ true → IsAnswered c s after → Leaves decls c s after
answer_leaves decls (commands.New x kind src from) s after e h = h
answer_leaves decls (commands.Let y x op from) s after e h = h
answer_leaves decls (commands.Rekey y x comparer) s after e h = h
answer_leaves decls (commands.Ask x query from) s after e h = h
answer_leaves decls (commands.Show x) s after e h = h
answer_leaves decls (commands.FrozenSet x eq src from) s after e h = h
answer_leaves decls (commands.FrozenMap x eq src from) s after e h = h
answer_leaves decls _ s after e h = absurd (clash false e refl)

pub answer_is_done : {S : Type 0} (makes : S → Note → S → Type 0) (decls : List CellDecl) (s : S) (o : ℕ) (c : Command) (w w' : Worker) → AnswersLocally o c w w' → IsDone makes decls o c s w s w'
answer_is_done makes decls s o c w w' a =
    let built = a.built in
    let l : LocalLine = record { ordinal = o; command = c; answer = a.answer } in
    line_is_done makes decls s o c l w w' (answer_leaves decls c w.names w'.names built (record { answer = a.answer; is = a.is }))
    (λ reports n. local_deed reports n o c w.names built ∙ ap (option_map (done_locally o c)) a.is) a.lines
