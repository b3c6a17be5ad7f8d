-- A cell on one thread goes on by its calls.
use Rattle.std.proofs.Common.{◌≡◌, ℕ, ◌+◌, ◌<◌, Bool, true, false, List, [], ◌∷◌, ◌++◌, length, None, Some, Ok, Err, refl, ap, sym, subst, ◌∙◌, arith, append_assoc, inr}
use Rattle.std.specs.Prelude.{MatchOption, Option, unwrap_or, is_none, is_some, if◌then◌else◌}
use Rattle.std.specs.List.{AllByRecursion}
use Rattle.std.proofs.lemmas.List.{append-nil}
use Rattle.imm_base.specs.declared.val.Val.{Val}
use Rattle.imm_base.specs.declared.val.Edit.TheVariants.{Same, New}
use Rattle.imm_base.specs.Edits.{is_over}
use Rattle.plain_model.specs.declared.plain.Kind.{Kind}
use Rattle.plain_model.specs.declared.plain.Values.{Values}
use Rattle.plain_model.specs.declared.plain.Plain.{Plain}
use Rattle.plain_model.specs.declared.commands.PlainOp.{PlainOp}
use Rattle.plain_model.specs.declared.commands.PlainCall.{PlainCall}
use Rattle.plain_model.specs.declared.commands.Probe.TheVariants.{Idle, Ran}
use Rattle.plain_model.specs.declared.history.Line.{Line}
use Rattle.plain_model.specs.declared.history.Refusal.TheVariants as refusals
use Rattle.plain_model.specs.Plain.{Changed, plain, count, filled, made}
use Rattle.plain_model.specs.Locals.{edited}
use Rattle.plain_model.specs.Cell.{cell, after, value_in}
use Rattle.plain_model.specs.History.{Fits, FitsFrom, IsBefore, InOrder, MayProbe, ProbesFrom, last_value, position_after, probe_of, value_at}
use Rattle.plain_model.proofs.HistorySteps.{position_of_all, value_of_line, value_past}
use Rattle.plain_model.proofs.HistorySteps as steps
use Rattle.cell_calls.specs.declared.call.CellCall.{CellCall}
use Rattle.cell_calls.specs.Calls.{Suits, plain_call}
use Rattle.cell_calls.proofs.KeptKinds.{ChangesWithin, plain_keeps, call_keeps}
use Rattle.runs.specs.declared.cell_run.CellRun.{CellRun}
use Rattle.runs.specs.Waits.{earlier_later}
use Rattle.runs.specs.OneThread.{next_position, line_of_call, after_call, IsEarlier, IsSoFar, HasCalled}

-- ---- kinds stay

edited_kind : (p : Plain) (c : Changed) → ChangesWithin p c → (edited p c).kind ≡ p.kind
edited_kind p (Ok Same) keeps = refl
edited_kind p (Ok (New q)) keeps = keeps
edited_kind p (Err r) keeps = refl

-- a collection has the same kind after an operation
pub let_kind : (op : PlainOp) (p : Plain) → (edited p (plain op p)).kind ≡ p.kind
let_kind op p = edited_kind p (plain op p) (plain_keeps op p)

installed_kind : (kind : Kind) (p : Plain) (installs : Option Plain) → p.kind ≡ kind → MatchOption installs (Unit {0}) (λ q. q.kind ≡ kind) → (unwrap_or installs p).kind ≡ kind
installed_kind kind p None same keeps = same
installed_kind kind p (Some q) same keeps = keeps

-- a new collection has the kind that it is made with
pub made_kind : (kind : Kind) (src : Values) (p : Plain) → made kind src ≡ Ok p → p.kind ≡ kind
made_kind kind src p e = split (is_over (count (filled kind src))) e
  where
    split : (b : Bool) → (if b then Err (refusals.TooLarge 0) else Ok (record { kind = kind; values = filled kind src })) ≡ Ok p → p.kind ≡ kind
    split true e = cc
    split false e = cc

-- ---- lines

fits_on : (p : Plain) (k : ℕ) (h : List Line) (l : Line) → FitsFrom p k h → Fits (last_value p h) (position_after k h) l → FitsFrom p k (h ++ l ∷ [])
fits_on p k [] l fits f = (f, tt)
fits_on p k (j ∷ h) l fits f =
    (fits.0, fits_on (after j.call p) j.position h l fits.1 (subst (λ q. Fits (last_value q h) (position_after j.position h) l) (value_of_line p k j fits.0) f))

last_on : (p : Plain) (h : List Line) (l : Line) → last_value p (h ++ l ∷ []) ≡ (if l.installed then after l.call (last_value p h) else last_value p h)
last_on p [] l = refl
last_on p (j ∷ h) l = last_on (if j.installed then after j.call p else p) h l

pub position_on : (k : ℕ) (h : List Line) (l : Line) → position_after k (h ++ l ∷ []) ≡ l.position
position_on k [] l = refl
position_on k (j ∷ h) l = position_on j.position h l

earlier_on : (o : ℕ) (h : List Line) (l : Line) → AllByRecursion (IsEarlier o) h → IsEarlier o l → AllByRecursion (IsEarlier o) (h ++ l ∷ [])
earlier_on o [] l all last = (last, tt)
earlier_on o (j ∷ h) l all last = (all.0, earlier_on o h l all.1 last)

before : (a b : Line) (o : ℕ) → IsEarlier o a → b.caller ≡ 1 → b.ordinal ≡ o → IsBefore a b
before a b o earlier by at = let e = earlier.ordinal in inr (earlier.caller ∙ sym by, omega arith)

-- a later line of the caller stays in order
in_order_on : (o : ℕ) (h : List Line) (l : Line) → InOrder h → AllByRecursion (IsEarlier o) h → l.caller ≡ 1 → l.ordinal ≡ o → InOrder (h ++ l ∷ [])
in_order_on o [] l order all by at = tt
in_order_on o (a ∷ []) l order all by at = ((λ _ _ _. before a l o all.0 by at), tt)
in_order_on o (a ∷ b ∷ h) l order all by at = (order.0, in_order_on o (b ∷ h) l order.1 all.1 by at)

-- ---- factories

-- one line more, whose factory may have run so
probes_on : (first : Plain) (before h : List Line) (l : Line) → ProbesFrom first before h → MayProbe first (before ++ h) l.caller (probe_of l.call) → ProbesFrom first before (h ++ l ∷ [])
probes_on first before [] l probes may = (subst (λ b. MayProbe first b l.caller (probe_of l.call)) (append-nil before) may, tt)
probes_on first before (k ∷ h) l probes may =
    (probes.0, probes_on first (before ++ k ∷ []) h l probes.1 (subst (λ b. MayProbe first b l.caller (probe_of l.call)) (sym (append_assoc before (k ∷ []) h)) may))

-- a call without a factory runs none
pub no_factory : (c : CellRun) (call : PlainCall) → probe_of call ≡ None → MayProbe c.first c.lines 1 (probe_of call)
no_factory c call none = subst (MayProbe c.first c.lines 1) (sym none) tt

of_one : (o : ℕ) (h : List Line) → AllByRecursion (IsEarlier o) h → AllByRecursion (steps.IsBy 1) h
of_one o [] all = tt
of_one o (l ∷ h) all = (all.0.caller, of_one o h all.1)

module _ (o : ℕ) (c : CellRun) (s : IsSoFar o c) (key : Val) where
  value_now : value_at c.first c.lines c.position ≡ c.value
  value_now =
      let at = s.position in
      ap (λ ls. value_at c.first ls c.position) (sym (append-nil c.lines)) ∙ (value_past c.first 0 c.lines [] c.position s.fits (omega arith) ∙ sym s.value)

  -- a factory does not run where the key is there now
  pub idle_now : (v : Val) → value_in key c.value ≡ Some v → MayProbe c.first c.lines 1 (Some (key, Idle))
  idle_now v found = ap (λ p. is_some (value_in key p)) (sym s.value) ∙ ap is_some found

  -- it may run where the key is absent
  pub ran_now : value_in key c.value ≡ None → MayProbe c.first c.lines 1 (Some (key, Ran c.position))
  ran_now found =
      let at = s.position in
      record {
        seen = let e = position_of_all 1 0 c.lines (of_one o c.lines s.earlier) in omega arith;
        past = omega arith;
        absent = ap (λ p. is_none (value_in key p)) value_now ∙ ap is_none found;
      }

-- ---- one cell

next_below : (k o : ℕ) (b : Bool) → k < o → next_position k b < o + 1
next_below k o true h = omega arith
next_below k o false h = omega arith

-- a call of the model, and what it leaves
plain_made : (o : ℕ) (call : PlainCall) (c : CellRun) → IsSoFar o c → MayProbe c.first c.lines 1 (probe_of call) → (after call c.value).kind ≡ c.decl.kind → HasCalled o call c (after_call o call (cell call c.value) c)
plain_made o call c s probe kind =
    let line : Line = line_of_call o call (cell call c.value) c.position in
    let fits : Fits c.value c.position line = record { installed = refl; reply = refl; position = refl } in
    let there : Fits (last_value c.first c.lines) (position_after 0 c.lines) line =
    subst (λ v. Fits v (position_after 0 c.lines) line) s.value (subst (λ k. Fits c.value k line) s.position fits) in
    let now : IsEarlier (o + 1) line = record { caller = refl; ordinal = omega arith } in
    record {
      line = line;
      numbered = refl;
      caller = refl;
      goes_on = record { lines = refl; decl = refl; first = refl };
      so_far = record {
        first = s.first;
        kind = kind;
        fits = fits_on c.first 0 c.lines line s.fits there;
        value = sym (value_of_line c.value c.position line fits) ∙ (ap (λ v. if line.installed then after call v else v) s.value ∙ sym (last_on c.first c.lines line));
        position = sym (position_on 0 c.lines line);
        order = in_order_on o c.lines line s.order s.earlier refl refl;
        probes = probes_on c.first [] c.lines line s.probes probe;
        earlier = earlier_on (o + 1) c.lines line (earlier_later o c.lines s.earlier) now;
        low = next_below c.position o (is_some (cell call c.value).installs) s.low;
      };
    }

-- a call that suits the kind
pub call_made : (o : ℕ) (call : CellCall) (c : CellRun) → IsSoFar o c → Suits call c.decl.kind → MayProbe c.first c.lines 1 (probe_of (plain_call call))
    → HasCalled o (plain_call call) c (after_call o (plain_call call) (cell (plain_call call) c.value) c)
call_made o call c s suits probe =
    let keeps = call_keeps call c.value (subst (Suits call) (sym s.kind) suits) in
    plain_made o (plain_call call) c s probe (installed_kind c.value.kind c.value (cell (plain_call call) c.value).installs refl keeps ∙ s.kind)
