-- Histories of a cell: where lines that fit lead, and the value at a position of theirs.
use Rattle.std.proofs.Common.{◌≡◌, ℕ, ◌+◌, ◌<◌, ◌≤◌, Bool, true, false, ◌&&◌, eqb, cond, List, [], ◌∷◌, ◌++◌, None, Some, refl, ap, sym, subst, ◌∙◌, arith, eq-eqb, ne_eqb}
use Rattle.std.specs.Prelude.{Option, is_some, unwrap_or, if◌then◌else◌, nat_le}
use Rattle.std.specs.List.{AllByRecursion}
use Rattle.std.proofs.lemmas.Bool.Decides.{nat_tests}
use Rattle.plain_model.specs.declared.plain.Plain.{Plain}
use Rattle.plain_model.specs.declared.history.Line.{Line}
use Rattle.plain_model.specs.Cell.{cell, after}
use Rattle.plain_model.specs.History.{value_at, last_value, Fits, FitsFrom, probe_of, position_after, position_of, MayProbe, ProbesFrom}
use Rattle.plain_model.specs.Work.{line_of}

-- ---- where lines lead

-- what a line installs, or does not, is what its call does
installed_or : (x : Option Plain) (p : Plain) → (if is_some x then unwrap_or x p else p) ≡ unwrap_or x p
installed_or None p = refl
installed_or (Some q) p = refl

pub value_of_line : (p : Plain) (k : ℕ) (l : Line) → Fits p k l → (if l.installed then after l.call p else p) ≡ after l.call p
value_of_line p k l fits = ap (λ b. if b then after l.call p else p) fits.installed ∙ installed_or (cell l.call p).installs p

-- of lines that fit, the later ones fit behind the earlier ones
pub fits_front : (p : Plain) (k : ℕ) (h more : List Line) → FitsFrom p k (h ++ more) → FitsFrom p k h
fits_front p k [] more fits = tt
fits_front p k (l ∷ h) more fits = (fits.0, fits_front (after l.call p) l.position h more fits.1)

pub fits_back : (p : Plain) (k : ℕ) (h more : List Line) → FitsFrom p k (h ++ more) → FitsFrom (last_value p h) (position_after k h) more
fits_back p k [] more fits = fits
fits_back p k (l ∷ h) more fits =
    subst (λ q. FitsFrom (last_value q h) (position_after l.position h) more) (sym (value_of_line p k l fits.0)) (fits_back (after l.call p) l.position h more fits.1)

-- a line is at the position before it or one higher
step_position : (b : Bool) (k n : ℕ) → n ≡ (if b then k + 1 else k) → k ≤ n
step_position true k n e = omega arith
step_position false k n e = omega arith

pub position_up : (p : Plain) (k : ℕ) (h : List Line) → FitsFrom p k h → k ≤ position_after k h
position_up p k [] fits = omega arith
position_up p k (l ∷ h) fits =
    let on = position_up (after l.call p) l.position h fits.1 in
    let here = step_position l.installed k l.position fits.0.position in
    omega arith

-- ---- the value where a line stands

nat_le_true : (m n : ℕ) → m ≤ n → nat_le m n ≡ true
nat_le_true m n h = grind (arith, nat_tests)

nat_le_false : (m n : ℕ) → n < m → nat_le m n ≡ false
nat_le_false m n h = grind (arith, nat_tests)

with_true : (b : Bool) (p q : Plain) → (if b && true then q else p) ≡ (if b then q else p)
with_true true p q = refl
with_true false p q = refl

-- lines up to a position count with it
pub value_past : (p : Plain) (k : ℕ) (h more : List Line) (j : ℕ) → FitsFrom p k h → position_after k h ≤ j
    → value_at p (h ++ more) j ≡ value_at (last_value p h) more j
value_past p k [] more j fits within = refl
value_past p k (l ∷ h) more j fits within =
    let up = position_up (after l.call p) l.position h fits.1 in
    let below : l.position ≤ j = omega arith in
    ap (λ b. value_at (if l.installed && b then after l.call p else p) (h ++ more) j) (nat_le_true l.position j below)
    ∙ ap (λ v. value_at v (h ++ more) j) (with_true l.installed p (after l.call p) ∙ value_of_line p k l fits.0)
    ∙ value_past (after l.call p) l.position h more j fits.1 within
    ∙ ap (λ v. value_at (last_value v h) more j) (sym (value_of_line p k l fits.0))

-- lines that install later do not count
pub value_before : (u p : Plain) (k : ℕ) (h : List Line) (j : ℕ) → FitsFrom p k h → j ≤ k → value_at u h j ≡ u
value_before u p k [] j fits within = refl
value_before u p k (l ∷ h) j fits within =
    let up = step_position l.installed k l.position fits.0.position in
    ap (λ v. value_at v h j) (here l.installed fits.0.position) ∙ value_before u (after l.call p) l.position h j fits.1 (omega arith)
  where
    here : (b : Bool) → l.position ≡ (if b then k + 1 else k) → (if b && nat_le l.position j then after l.call u else u) ≡ u
    here false e = refl
    here true e = let above : j < l.position = omega arith in ap (λ c. if c then after l.call u else u) (nat_le_false l.position j above)

-- the value where a line stands is what its call leaves
pub value_there : (p : Plain) (k : ℕ) (h : List Line) (l : Line) (more : List Line) → FitsFrom p k (h ++ l ∷ more)
    → value_at p (h ++ l ∷ more) l.position ≡ after l.call (last_value p h)
value_there p k h l more fits =
    let q = last_value p h in
    let back = fits_back p k h (l ∷ more) fits in
    let up = step_position l.installed (position_after k h) l.position back.0.position in
    value_past p k h (l ∷ more) l.position (fits_front p k h (l ∷ more) fits) up
    ∙ ap (λ b. value_at (if l.installed && b then after l.call q else q) more l.position) (nat_le_true l.position l.position (omega arith))
    ∙ ap (λ v. value_at v more l.position) (with_true l.installed q (after l.call q) ∙ value_of_line q (position_after k h) l back.0)
    ∙ value_before (after l.call q) (after l.call q) l.position more l.position back.1 (omega arith)

-- ---- the lines of one caller

abbrev pub IsBy : ℕ → Line → Type 0
IsBy w l = l.caller ≡ w

abbrev pub IsEarlier : ℕ → Line → Type 0
IsEarlier o l = l.ordinal < o

-- a line is found behind those with lower ordinals
pub line_found : (w o : ℕ) (h : List Line) (l : Line) (more : List Line) → AllByRecursion (IsEarlier o) h → l.caller ≡ w → l.ordinal ≡ o
    → line_of w o (h ++ l ∷ more) ≡ Some l
line_found w o [] l more all by at =
    ap (λ b. cond (b && eqb l.ordinal o) (Some l) (line_of w o more)) (eq-eqb l.caller w by)
    ∙ ap (λ b. cond b (Some l) (line_of w o more)) (eq-eqb l.ordinal o at)
line_found w o (k ∷ h) l more all by at =
    let below = all.0 in
    ap (λ b. cond b (Some k) (line_of w o (h ++ l ∷ more))) (other (eqb k.caller w) (eqb k.ordinal o) (ne_eqb k.ordinal o (λ e. omega arith)))
    ∙ line_found w o h l more all.1 by at
  where
    other : (a b : Bool) → b ≡ false → (a && b) ≡ false
    other true b h = h
    other false b h = refl

-- where all lines are by one caller, its last position is the position after them
pub position_of_all : (w k : ℕ) (h : List Line) → AllByRecursion (IsBy w) h → position_of w k h ≡ position_after k h
position_of_all w k [] all = refl
position_of_all w k (l ∷ h) all = ap (λ b. position_of w (if b then l.position else k) h) (eq-eqb l.caller w all.0) ∙ position_of_all w l.position h all.1

-- ---- factories

-- no call may run a factory
pub no_probes : (first : Plain) (before h : List Line) → AllByRecursion (λ l. probe_of l.call ≡ None) h → ProbesFrom first before h
no_probes first before [] all = tt
no_probes first before (l ∷ h) all = (subst (MayProbe first before l.caller) (sym all.0) tt, no_probes first (before ++ l ∷ []) h all.1)

-- what the probe of a line says stands on the lines before it
pub probe_there : (first : Plain) (before h : List Line) (l : Line) (more : List Line) → ProbesFrom first before (h ++ l ∷ more)
    → MayProbe first (before ++ h) l.caller (probe_of l.call)
probe_there first before [] l more probes = subst (λ b. MayProbe first b l.caller (probe_of l.call)) (sym (append-nil before)) probes.0
  where
    append-nil : (xs : List Line) → xs ++ [] ≡ xs
    append-nil [] = refl
    append-nil (x ∷ xs) = ap (λ ys. x ∷ ys) (append-nil xs)
probe_there first before (k ∷ h) l more probes =
    subst (λ b. MayProbe first b l.caller (probe_of l.call)) (push before k h) (probe_there first (before ++ k ∷ []) h l more probes.1)
  where
    push : (xs : List Line) (x : Line) (ys : List Line) → (xs ++ x ∷ []) ++ ys ≡ xs ++ x ∷ ys
    push [] x ys = refl
    push (z ∷ xs) x ys = ap (λ zs. z ∷ zs) (push xs x ys)
