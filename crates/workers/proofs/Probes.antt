-- Whether factories ran, as the lines of one history say of them.
use Rattle.std.proofs.Common.{◌≡◌, ℕ, ◌+◌, ◌-◌, ◌<◌, ◌≤◌, length, get_or, Bool, true, false, MatchBool, cond, eqb, List, [], ◌∷◌, ◌++◌, None, Some, refl, ap, sym, subst, ◌∙◌, arith, append_assoc, eq-eqb}
use Rattle.std.specs.Prelude.{Option, is_none, is_some, if◌then◌else◌}
use Rattle.std.specs.List.{AllByRecursion}
use Rattle.imm_base.specs.declared.val.Val.{Val}
use Rattle.plain_model.specs.declared.plain.Plain.{Plain}
use Rattle.plain_model.specs.declared.commands.Probe.{Probe}
use Rattle.plain_model.specs.declared.commands.Probe.TheVariants.{Idle, Ran}
use Rattle.plain_model.specs.declared.commands.PlainCall.{PlainCall}
use Rattle.plain_model.specs.declared.commands.PlainCall.TheVariants as calls
use Rattle.plain_model.specs.declared.history.Line.{Line}
use Rattle.plain_model.specs.declared.report.CellDecl.{CellDecl}
use Rattle.plain_model.specs.declared.report.CellReport.{CellReport}
use Rattle.plain_model.specs.Cell.{after, cell, get_or_add_made, is_map, value_in, where_it_is}
use Rattle.plain_model.specs.Plain.{shape_of}
use Rattle.plain_model.specs.History.{FitsFrom, MayProbe, ProbesFrom, last_value, position_after, position_of, probe_of, value_at}
use Rattle.plain_model.proofs.HistorySteps.{fits_back, fits_front, value_before, value_past}
use Rattle.history_merge.specs.Lines.{lines_by}
use Rattle.interlocked.specs.Known.{Known, Shared}
use Rattle.interlocked.specs.Whole.{new_pass}
use Rattle.seats.specs.Logs.{BearsOut, IsLogged, Looked, LookOnFrom, LooksFrom}
use Rattle.workers.specs.Hands.{Handed}
use Rattle.workers.specs.Closed.{AreLogged, IsClosed}
use Rattle.workers.proofs.Lists.{all_weaker}
use Rattle.workers.proofs.Histories.{shown}

-- ---- the lines of one caller

-- what holds of all lines of a caller holds of each
pub own_line : (P : Line → Type 0) (w : ℕ) (before : List Line) (l : Line) (more : List Line) → l.caller ≡ w → AllByRecursion P (lines_by w (before ++ l ∷ more)) → P l
own_line P w [] l more by all = (subst (AllByRecursion P) (ap (λ b. cond b (l ∷ lines_by w more) (lines_by w more)) (eq-eqb l.caller w by)) all).0
own_line P w (x ∷ before) l more by all = split (eqb x.caller w) all (own_line P w before l more by)
  where
    split : (b : Bool) → AllByRecursion P (cond b (x ∷ lines_by w (before ++ l ∷ more)) (lines_by w (before ++ l ∷ more))) → (AllByRecursion P (lines_by w (before ++ l ∷ more)) → P l) → P l
    split true all rest = rest all.1
    split false all rest = rest all

-- a call looks behind the position of the caller's line before it
pub own_look : (w k : ℕ) (before : List Line) (l : Line) (more : List Line) → l.caller ≡ w → LookOnFrom k (lines_by w (before ++ l ∷ more)) → LooksFrom (position_of w k before) (probe_of l.call)
own_look w k [] l more by looks = (subst (LookOnFrom k) (ap (λ b. cond b (l ∷ lines_by w more) (lines_by w more)) (eq-eqb l.caller w by)) looks).0
own_look w k (x ∷ before) l more by looks = split (eqb x.caller w) looks (λ j. own_look w j before l more by)
  where
    split : (b : Bool) → LookOnFrom k (cond b (x ∷ lines_by w (before ++ l ∷ more)) (lines_by w (before ++ l ∷ more)))
        → ((j : ℕ) → LookOnFrom j (lines_by w (before ++ l ∷ more)) → LooksFrom (position_of w j before) (probe_of l.call)) → LooksFrom (position_of w (if b then x.position else k) before) (probe_of l.call)
    split true looks rest = rest x.position looks.1
    split false looks rest = rest k looks

-- ---- values of a history that goes on

value_on : (p : Plain) (h more : List Line) (j : ℕ) → value_at p (h ++ more) j ≡ value_at (value_at p h j) more j
value_on p [] more j = refl
value_on p (l ∷ h) more j = value_on (value_at p (l ∷ []) j) h more j

module _ (first : Plain) (before more : List Line) (fits : FitsFrom first 0 (before ++ more)) where
  -- up to where the first lines lead, the later ones do not count
  pub value_within : (j : ℕ) → j ≤ position_after 0 before → value_at first (before ++ more) j ≡ value_at first before j
  value_within j within = value_on first before more j ∙ value_before (value_at first before j) (last_value first before) (position_after 0 before) more j (fits_back first 0 before more fits) within

  pub value_there : value_at first (before ++ more) (position_after 0 before) ≡ last_value first before
  value_there =
      value_past first 0 before more (position_after 0 before) (fits_front first 0 before more fits) (omega arith)
      ∙ value_before (last_value first before) (last_value first before) (position_after 0 before) more (position_after 0 before) (fits_back first 0 before more fits) (omega arith)

-- ---- one line

-- what a line says of its factory is so in the whole history
abbrev pub IsSoIn : Plain → List Line → Line → Option (Val × Probe) → Type 0
IsSoIn first lines l None = Unit {0}
IsSoIn first lines l (Some (key, Idle)) = is_some (value_in key (value_at first lines l.position)) ≡ true
IsSoIn first lines l (Some (key, Ran position)) =
    (is_none (value_in key (value_at first lines position)) ≡ true) × MatchBool l.installed (position < l.position) (position ≤ l.position)

abbrev is_idle : Option (Val × Probe) → Bool
is_idle None = false
is_idle (Some (key, Idle)) = true
is_idle (Some (key, Ran position)) = false

differ : (b : Bool) → b ≡ false → b ≡ true → ⊥
differ b f t = cc

-- a call whose factory did not run installs nothing
idle_rests : (call : PlainCall) (key : Val) (p : Plain) → probe_of call ≡ Some (key, Idle) → is_some (cell call p).installs ≡ false
idle_rests (calls.GetOrAddMade k make Idle) key p e = split (is_map (shape_of p.kind)) (value_in k p)
  where
    split : (b : Bool) (found : Option Val) → is_some (where_it_is b (get_or_add_made k make Idle p found)).installs ≡ false
    split true None = refl
    split true (Some u) = refl
    split false found = refl
idle_rests (calls.GetOrAddMade k make (Ran position)) key p e = absurd (differ (is_idle (Some (k, Ran position))) refl (ap is_idle e))
idle_rests _ key p e = absurd cc

module _ (first : Plain) (before : List Line) (l : Line) (more : List Line) (fits : FitsFrom first 0 (before ++ l ∷ more)) where
  abbrev k : ℕ
  k = position_after 0 before

  lands : l.position ≡ (if l.installed then k + 1 else k)
  lands = (fits_back first 0 before (l ∷ more) fits).0.position

  idle : (key : Val) → probe_of l.call ≡ Some (key, Idle) → is_some (value_in key (value_at first (before ++ l ∷ more) l.position)) ≡ true → is_some (value_in key (last_value first before)) ≡ true
  idle key is found =
      let here = fits_back first 0 before (l ∷ more) fits in
      let rests : l.installed ≡ false = here.0.installed ∙ idle_rests l.call key (last_value first before) is in
      let at : l.position ≡ k = lands ∙ ap (λ b. if b then k + 1 else k) rests in
      ap (λ p. is_some (value_in key p)) (sym (value_there first before (l ∷ more) fits)) ∙ (ap (λ j. is_some (value_in key (value_at first (before ++ l ∷ more) j))) (sym at) ∙ found)

  past : (position n : ℕ) (b : Bool) → n ≡ (if b then k + 1 else k) → MatchBool b (position < n) (position ≤ n) → position ≤ k
  past position n true is h = omega arith
  past position n false is h = omega arith

  -- the line's factory may have run so
  may_probe : (o : Option (Val × Probe)) → probe_of l.call ≡ o → IsSoIn first (before ++ l ∷ more) l o → LooksFrom (position_of l.caller 0 before) o → MayProbe first before l.caller o
  may_probe None is so looks = tt
  may_probe (Some (key, Idle)) is so looks = idle key is so
  may_probe (Some (key, Ran position)) is so looks =
      let low = past position l.position l.installed lands so.1 in
      record {
        seen = looks;
        past = low;
        absent = ap (λ p. is_none (value_in key p)) (sym (value_within first before (l ∷ more) fits position low)) ∙ so.0;
      }

-- ---- all lines

-- what may be of each line, behind those before it, may be of all
pub probes_from : (first : Plain) (lines before h : List Line) → before ++ h ≡ lines → ((b : List Line) (l : Line) (m : List Line) → b ++ l ∷ m ≡ lines → MayProbe first b l.caller (probe_of l.call)) → ProbesFrom first before h
probes_from first lines before [] is each = tt
probes_from first lines before (l ∷ h) is each = (each before l h is, probes_from first lines (before ++ l ∷ []) h (append_assoc before (l ∷ []) h ∙ is) each)

-- ---- one cell

none_of : {A : Type 0} (x : Option A) → is_some x ≡ false → is_none x ≡ true
none_of None e = refl
none_of (Some x) e = cc

module _ (n : ℕ) (d : CellDecl) (s : Shared) (h : Handed) (r : CellReport) (are : AreLogged n s h) (c : IsClosed d s h r) where
  -- what a worker's pass saw of a key is so in the history
  looked_there : (k : ℕ) (q : Known) → k < n → (position : ℕ) (key : Val) (there : Bool) → Looked (get_or h.passes k q).view.seen position key there → is_some (value_in key (value_at s.first.value c.lines position)) ≡ there
  looked_there k q lt position key there l =
      let saw = shown n s h are c.front c.kept c.whole k q lt position l.got l.shown in
      ap (λ p. is_some (value_in key p)) (c.merged.values position saw.0 ∙ saw.1) ∙ l.found

  borne_out : (k : ℕ) (q : Known) → k < n → (l : Line) (o : Option (Val × Probe)) → BearsOut (get_or h.passes k q).view.seen l o → IsSoIn s.first.value c.lines l o
  borne_out k q lt l None b = tt
  borne_out k q lt l (Some (key, Idle)) b = looked_there k q lt l.position key true b
  borne_out k q lt l (Some (key, Ran position)) b = (none_of (value_in key (value_at s.first.value c.lines position)) (looked_there k q lt position key false b.0), b.1)

  -- each factory may have run as its line says
  one_probe : (before : List Line) (l : Line) (more : List Line) → before ++ l ∷ more ≡ c.lines → MayProbe s.first.value before l.caller (probe_of l.call)
  one_probe before l more is =
      may_probe s.first.value before l more (subst (FitsFrom s.first.value 0) (sym is) c.merged.steps) (probe_of l.call) refl
      (subst (λ ls. IsSoIn s.first.value ls l (probe_of l.call)) (sym is) (own_line (λ x. IsSoIn s.first.value c.lines x (probe_of x.call)) l.caller before l more refl (subst (AllByRecursion (λ x. IsSoIn s.first.value c.lines x (probe_of x.call))) (sym own)
      (all_weaker (λ x b. borne_out k q low x (probe_of x.call) b) (get_or h.logs k []) its.probed))))
      (own_look l.caller 0 before l more refl (subst (LookOnFrom 0) (sym own) (its.looks 0 (omega arith))))
    where
      by : (0 < l.caller) × (l.caller ≤ length h.logs)
      by = among before (subst (AllByRecursion (λ x. (0 < x.caller) × (x.caller ≤ length h.logs))) (sym is) c.merged.callers)
        where
          among : (xs : List Line) → AllByRecursion (λ x. (0 < x.caller) × (x.caller ≤ length h.logs)) (xs ++ l ∷ more) → (0 < l.caller) × (l.caller ≤ length h.logs)
          among [] all = all.0
          among (x ∷ xs) all = among xs all.1

      k : ℕ
      k = l.caller - 1

      within : k < length h.logs
      within = let a = by.0 in let b = by.1 in omega arith

      low : k < n
      low = let e = are.logs in omega (arith, within)

      q : Known
      q = new_pass s.table s.passes s.first (k + 1)

      its : IsLogged (new_pass s.table s.passes s.first (k + 1)) (get_or h.passes k q) (get_or h.logs k [])
      its = are.each k q low

      own : lines_by l.caller (before ++ l ∷ more) ≡ get_or h.logs k []
      own = let at : l.caller ≡ k + 1 = let a = by.0 in omega arith in ap (λ w. lines_by w (before ++ l ∷ more)) at ∙ (ap (lines_by (k + 1)) is ∙ c.merged.whole k within)

  pub probes : ProbesFrom s.first.value [] c.lines
  probes = probes_from s.first.value c.lines [] c.lines refl one_probe
