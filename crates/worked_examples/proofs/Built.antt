-- A history that is built call by call is legal.
use Rattle.std.specs.Prelude.{◌≡◌, ℕ, zero, suc, ◌+◌, ◌≤◌, ◌<◌, List, [], ◌∷◌, Bool, true, false, ◌&&◌, nat_lt, Option, Some, None, is_some, is_none, if◌then◌else◌}
use Rattle.std.specs.List.{AllByRecursion, list_all}
use Rattle.std.proofs.Common.{refl, sym, arith, inr, true≢false}
use Rattle.std.proofs.lemmas.Bool.{ltb-true}
use Rattle.plain_model.specs.declared.plain.Plain.{Plain}
use Rattle.plain_model.specs.declared.history.Line.{Line}
use Rattle.imm_base.specs.declared.val.Val.{Val}
use Rattle.plain_model.specs.declared.commands.Probe.{Probe}
use Rattle.plain_model.specs.Cell.{cell, after}
use Rattle.plain_model.specs.History.{FitsFrom, InOrder, Legal, Numbered, probe_of}
use Rattle.plain_model.proofs.HistorySteps.{no_probes}

-- the one number below 1
pub only_zero : (P : ℕ → Type 0) → P 0 → (k : ℕ) → k < 1 → P k
only_zero P p zero h = p
only_zero P p (suc k) h = absurd (omega arith)

-- the line of a call of the worker 1 at the value p, of the position k
abbrev pub line_at : Plain → ℕ → Numbered → Line
line_at p k c = record {
  position = if is_some (cell c.call p).installs then k + 1 else k;
  caller = 1;
  ordinal = c.ordinal;
  call = c.call;
  reply = (cell c.call p).reply;
  installed = is_some (cell c.call p).installs;
}

abbrev pub built : Plain → ℕ → List Numbered → List Line
built p k [] = []
built p k (c ∷ cs) = line_at p k c ∷ built (after c.call p) (if is_some (cell c.call p).installs then k + 1 else k) cs

-- the ordinals rise, from o on
abbrev pub rise_from : ℕ → List Numbered → Bool
rise_from o [] = true
rise_from o (c ∷ cs) = nat_lt o c.ordinal && rise_from c.ordinal cs

built_fits : (cs : List Numbered) (p : Plain) (k : ℕ) → FitsFrom p k (built p k cs)
built_fits [] p k = tt
built_fits (c ∷ cs) p k = (record { installed = refl; reply = refl; position = refl }, built_fits cs (after c.call p) (if is_some (cell c.call p).installs then k + 1 else k))

both : (a b : Bool) → (a && b) ≡ true → (a ≡ true) × (b ≡ true)
both true b e = (refl, e)
both false b e = absurd (true≢false (sym e))

built_in_order : (cs : List Numbered) (o : ℕ) (p : Plain) (k : ℕ) → rise_from o cs ≡ true → InOrder (built p k cs)
built_in_order [] o p k e = tt
built_in_order (c ∷ []) o p k e = tt
built_in_order (c ∷ d ∷ cs) o p k e =
    let tail : rise_from c.ordinal (d ∷ cs) ≡ true = (both (nat_lt o c.ordinal) (rise_from c.ordinal (d ∷ cs)) e).1 in
    let less : c.ordinal < d.ordinal = ltb-true c.ordinal d.ordinal (both (nat_lt c.ordinal d.ordinal) (rise_from d.ordinal cs) tail).0 in
    ((λ a b s. inr (refl, less)), built_in_order (d ∷ cs) c.ordinal (after c.call p) (if is_some (cell c.call p).installs then k + 1 else k) tail)

-- none of these calls may run a factory
abbrev pub have_no_factory : List Numbered → Bool
have_no_factory cs = list_all (λ c. is_none (probe_of c.call)) cs

built_unprobed : (cs : List Numbered) (p : Plain) (k : ℕ) → have_no_factory cs ≡ true → AllByRecursion (λ l. probe_of l.call ≡ None) (built p k cs)
built_unprobed [] p k e = tt
built_unprobed (c ∷ cs) p k e =
    let test = both (is_none (probe_of c.call)) (have_no_factory cs) e in
    (none_of (probe_of c.call) test.0, built_unprobed cs (after c.call p) (if is_some (cell c.call p).installs then k + 1 else k) test.1)
  where
    none_of : (o : Option (Val × Probe)) → is_none o ≡ true → o ≡ None
    none_of None e = refl
    none_of (Some x) e = absurd (true≢false (sym e))

pub built_legal : (cs : List Numbered) (p : Plain) → rise_from 0 cs ≡ true → have_no_factory cs ≡ true → Legal p (built p 0 cs)
built_legal cs p e none = record { steps = built_fits cs p 0; order = built_in_order cs 0 p 0 e; probes = no_probes p [] (built p 0 cs) (built_unprobed cs p 0 none) }

pub built_by_one : (cs : List Numbered) (p : Plain) (k : ℕ) → AllByRecursion (λ l. (1 ≤ l.caller) × (l.caller ≤ 1)) (built p k cs)
built_by_one [] p k = tt
built_by_one (c ∷ cs) p k = ((omega arith, omega arith), built_by_one cs (after c.call p) (if is_some (cell c.call p).installs then k + 1 else k))
