-- A line of a caller's log is the one of that caller and ordinal in the history of all.
use Rattle.std.proofs.Common.{◌≡◌, ℕ, ◌+◌, ◌<◌, Bool, true, false, ◌&&◌, eqb, cond, List, [], ◌∷◌, ◌++◌, Some, refl, ap, sym, ◌∙◌, arith, eq-eqb, ne_eqb}
use Rattle.std.specs.Prelude.{Option, find, filter, map}
use Rattle.std.specs.List.{AllByRecursion}
use Rattle.std.proofs.lemmas.Bool.Decides.{nat_tests}
use Rattle.plain_model.specs.declared.history.Line.{Line}
use Rattle.plain_model.specs.Work.{line_of}
use Rattle.history_merge.specs.Lines.{lines_by}

-- looked for among the lines of the caller alone
pub among_own : (w o : ℕ) (h : List Line) → line_of w o h ≡ find (λ l. eqb l.ordinal o) (lines_by w h)
among_own w o [] = refl
among_own w o (l ∷ h) = by (eqb l.caller w) (eqb l.ordinal o) refl (among_own w o h)
  where
    by : (a b : Bool) → eqb l.ordinal o ≡ b → line_of w o h ≡ find (λ l. eqb l.ordinal o) (lines_by w h)
        → cond (a && b) (Some l) (line_of w o h) ≡ find (λ l. eqb l.ordinal o) (cond a (l ∷ lines_by w h) (lines_by w h))
    by true true is e = sym (ap (λ c. cond c (Some l) (find (λ l. eqb l.ordinal o) (lines_by w h))) is)
    by true false is e = e ∙ sym (ap (λ c. cond c (Some l) (find (λ l. eqb l.ordinal o) (lines_by w h))) is)
    by false b is e = e

-- among lines with other ordinals before it
pub found_behind : (o : ℕ) (before : List Line) (l : Line) (more : List Line) → AllByRecursion (λ m. m.ordinal < o) before → l.ordinal ≡ o → find (λ l. eqb l.ordinal o) (before ++ l ∷ more) ≡ Some l
found_behind o [] l more all at = ap (λ b. cond b (Some l) (find (λ l. eqb l.ordinal o) more)) (eq-eqb l.ordinal o at)
found_behind o (m ∷ before) l more all at =
    ap (λ b. cond b (Some m) (find (λ l. eqb l.ordinal o) (before ++ l ∷ more))) (ne_eqb m.ordinal o (λ e. let a = all.0 in omega arith)) ∙ found_behind o before l more all.1 at
