-- A seat after one call.
use Rattle.std.proofs.Common.{◌≡◌, ℕ, zero, suc, ◌+◌, ◌<◌, List, [], ◌∷◌, length, get_or, set, Some, refl, ap, sym, ◌∙◌, arith}
use Rattle.std.specs.Prelude.{Option, map, slice_get, slice_set, slice_index_or}
use Rattle.std.proofs.lemmas.List.{length-set, map-set, set-get_or}
use Rattle.plain_model.specs.declared.commands.PlainCall.{PlainCall}
use Rattle.plain_model.specs.declared.history.Line.{Line}
use Rattle.plain_model.specs.declared.plain.Kind.{Kind}
use Rattle.plain_model.specs.declared.plain.Plain.{Plain}
use Rattle.plain_model.specs.History.{Numbered}
use Rattle.interlocked.specs.Known.{Known}
use Rattle.seats.specs.Seats.{Seated, IsReadyFor}
use Rattle.seats.specs.Steps.{kinds_in, IsCalled, HasCalledAt}

-- ---- lists

-- a place that has something is within
pub place_within : {A B : Type 0} (f : A → B) (xs : List A) (i : ℕ) (b : B) → slice_get (map f xs) i ≡ Some b → i < length xs
place_within f [] i b e = absurd cc
place_within f (x ∷ xs) zero b e = omega arith
place_within f (x ∷ xs) (suc i) b e = let r = place_within f xs i b e in omega arith

-- what is there is that of the element
pub there_is : {A B : Type 0} (f : A → B) (xs : List A) (i : ℕ) (b : B) (d : A) → slice_get (map f xs) i ≡ Some b → b ≡ f (get_or xs i d)
there_is f [] i b d e = absurd cc
there_is f (x ∷ xs) zero b d e = cc
there_is f (x ∷ xs) (suc i) b d e = there_is f xs i b d e

pub there : {A B : Type 0} (f : A → B) (xs : List A) (i : ℕ) (d : A) → i < length xs → slice_get (map f xs) i ≡ Some (f (get_or xs i d))
there f [] i d lt = absurd (omega arith)
there f (x ∷ xs) zero d lt = refl
there f (x ∷ xs) (suc i) d lt = there f xs i d (omega arith)

-- a list with another element at a place
get_set : {A : Type 0} (P : A → Type 0) (xs : List A) (i k : ℕ) (x d : A) → i < length xs → (i ≡ k → P x) → P (get_or xs k d) → P (get_or (set xs i x) k d)
get_set P [] i k x d lt here old = absurd (omega arith)
get_set P (y ∷ xs) zero zero x d lt here old = here refl
get_set P (y ∷ xs) zero (suc k) x d lt here old = old
get_set P (y ∷ xs) (suc i) zero x d lt here old = old
get_set P (y ∷ xs) (suc i) (suc k) x d lt here old = get_set P xs i k x d (omega arith) (λ e. here (ap suc e)) old

-- ---- one call

kind_of : Known → Kind
kind_of p = p.kind

module _ (s : Seated) (place o : ℕ) (call : PlainCall) (read : Option Plain) (before after : Known) (log log' : List Line) where
  -- the seat with another pass and another log at the place
  abbrev pub called : Seated
  called = record { cells = s.cells; passes = slice_set s.passes place after; logs = slice_set s.logs place log'; last = o }

  pub step : IsReadyFor s o → place < length s.cells → before ≡ slice_index_or s.passes place before → log ≡ slice_index_or s.logs place log → IsCalled before log o call read after log' → HasCalledAt s place o call read called
  step ready within pass_at log_at h = record {
    kinds = map-set (λ (p : Known). p.kind) s.passes place after
        ∙ (ap (λ (k : Kind). slice_set (kinds_in s.passes) place k) (h.is.later.kind ∙ ap (λ (p : Known). p.kind) pass_at)
        ∙ (sym (map-set (λ (p : Known). p.kind) s.passes place (slice_index_or s.passes place before)) ∙ ap kinds_in (set-get_or s.passes place before)));
    ready = record {
      passes = length-set s.passes place after ∙ ready.passes;
      logs = length-set s.logs place log' ∙ ready.logs;
      table = λ k p c lt. get_set (λ (q : Known). q.table ≡ (slice_index_or s.cells k c).table) s.passes place k after p (let e = ready.passes in omega arith)
          (λ same. h.is.later.table ∙ (ap (λ (q : Known). q.table) pass_at ∙ (ready.table place before c within ∙ ap (λ j. (slice_index_or s.cells j c).table) same)))
          (ready.table k p c lt);
      below = λ k p lt. get_set (λ (q : Known). q.last < o + 1) s.passes place k after p (let e = ready.passes in omega arith) (λ same. h.below) (let e = ready.below k p lt in omega arith);
      last = omega arith;
    };
    makes = record {
      note = record { place = place; line = h.line; value = read };
      place = refl;
      numbered = h.is_numbered;
      value = refl;
      made = record {
        before = before;
        after = after;
        log = log;
        within = within;
        pass_at = pass_at;
        log_at = log_at;
        line = h.is;
        above = let e = ready.last in let f = ordinal in omega arith;
        next = λ i. record { cells = s.cells; passes = slice_set s.passes place after; logs = slice_set s.logs place (h.grown i); last = sym ordinal i };
      };
    };
  }
    where
      ordinal : h.line.ordinal ≡ o
      ordinal = ap (λ (n : Numbered). n.ordinal) h.is_numbered
