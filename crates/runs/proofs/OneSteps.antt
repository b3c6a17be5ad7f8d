-- The cells of one thread after a call on one of them.
use Rattle.std.proofs.Common.{◌≡◌, ℕ, zero, suc, ◌+◌, ◌<◌, Bool, true, false, eqb, List, [], ◌∷◌, length, get_or, set, None, Some, refl, ap, sym, subst, ◌∙◌, arith}
use Rattle.std.specs.Prelude.{map, slice_get}
use Rattle.plain_model.specs.declared.plain.Kind.{Kind}
use Rattle.plain_model.specs.declared.plain.Plain.{Plain}
use Rattle.plain_model.specs.declared.commands.PlainCall.{PlainCall}
use Rattle.plain_model.specs.History.{Numbered}
use Rattle.runs.specs.declared.cell_run.CellRun.{CellRun}
use Rattle.runs.specs.declared.one_thread.OneThread.{OneThread}
use Rattle.runs.specs.Notes.{Makes}
use Rattle.runs.specs.OneThread.{IsSoFar, HasCalled, AreSoFar, CallsOne}
use Rattle.runs.specs.Waits.{so_far_later}

-- the kind that a cell is declared with
abbrev pub kind_of : CellRun → Kind
kind_of c = c.decl.kind

pub kinds_declared : (xs : List CellRun) → map kind_of xs ≡ map (λ d. d.kind) (map (λ c. c.decl) xs)
kinds_declared [] = refl
kinds_declared (x ∷ xs) = ap (λ (ks : List Kind). kind_of x ∷ ks) (kinds_declared xs)

pub kinds_set : (xs : List CellRun) (i : ℕ) (a b : CellRun) → i < length xs → b ≡ get_or xs i b → a.decl ≡ b.decl → map kind_of (set xs i a) ≡ map kind_of xs
kinds_set [] i a b lt at same = refl
kinds_set (x ∷ xs) zero a b lt at same = ap (λ (k : Kind). k ∷ map kind_of xs) (ap (λ d. d.kind) same ∙ ap kind_of at)
kinds_set (x ∷ xs) (suc i) a b lt at same = ap (λ (ks : List Kind). kind_of x ∷ ks) (kinds_set xs i a b (omega arith) at same)

pub within_of : (xs : List CellRun) (i : ℕ) → i < length (map kind_of xs) → i < length xs
within_of [] i lt = absurd (omega arith)
within_of (x ∷ xs) zero lt = omega arith
within_of (x ∷ xs) (suc i) lt = let r = within_of xs i (omega arith) in omega arith

pub kind_at : (xs : List CellRun) (i : ℕ) (d : CellRun) → i < length xs → slice_get (map kind_of xs) i ≡ Some (kind_of (get_or xs i d))
kind_at [] i d lt = absurd (omega arith)
kind_at (x ∷ xs) zero d lt = refl
kind_at (x ∷ xs) (suc i) d lt = kind_at xs i d (omega arith)

-- the kind that is there is that of the cell
pub kind_is : (xs : List CellRun) (i : ℕ) (d : CellRun) (k : Kind) → slice_get (map kind_of xs) i ≡ Some k → k ≡ kind_of (get_or xs i d)
kind_is [] i d k e = absurd cc
kind_is (x ∷ xs) zero d k e = cc
kind_is (x ∷ xs) (suc i) d k e = kind_is xs i d k e

-- a kind that is there has a place within
pub index_of : (xs : List CellRun) (i : ℕ) (k : Kind) → slice_get (map kind_of xs) i ≡ Some k → i < length xs
index_of [] i k e = absurd cc
index_of (x ∷ xs) zero k e = omega arith
index_of (x ∷ xs) (suc i) k e = let r = index_of xs i k e in omega arith

-- each cell stays before the next ordinal, and the one that was called is
pub all_set : (xs : List CellRun) (i : ℕ) (a : CellRun) (o : ℕ) → ((k : ℕ) (c : CellRun) → k < length xs → IsSoFar o (get_or xs k c)) → IsSoFar (o + 1) a
    → (k : ℕ) (c : CellRun) → k < length (set xs i a) → IsSoFar (o + 1) (get_or (set xs i a) k c)
all_set [] i a o each now k c lt = absurd (omega arith)
all_set (x ∷ xs) zero a o each now zero c lt = now
all_set (x ∷ xs) zero a o each now (suc k) c lt = so_far_later o (get_or xs k c) (each (suc k) c (omega arith))
all_set (x ∷ xs) (suc i) a o each now zero c lt = so_far_later o x (each 0 c (omega arith))
all_set (x ∷ xs) (suc i) a o each now (suc k) c lt = all_set xs i a o (λ j d h. each (suc j) d (omega arith)) now k c (omega arith)

-- the cells made the call that one of them made
pub call_is_made : (s t : OneThread) (place o : ℕ) (call : PlainCall) (before after : CellRun) → AreSoFar s o → place < length s.cells.items → before ≡ get_or s.cells.items place before
    → HasCalled o call before after → t.cells.items ≡ set s.cells.items place after → Makes CallsOne s place o call None t
call_is_made s t place o call before after far within at one cells = record {
  note = record { place = place; line = one.line; value = None };
  place = refl;
  numbered = one.numbered;
  value = refl;
  made = record {
    before = before;
    after = after;
    within = within;
    at = at;
    cells = cells;
    so_far = subst (λ n. IsSoFar n before) (sym (ap (λ (n : Numbered). n.ordinal) one.numbered)) (subst (IsSoFar o) (sym at) (far.each place before within));
    caller = one.caller;
    goes_on = one.goes_on;
    read = tt;
  };
}
