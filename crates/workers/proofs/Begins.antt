-- Workers at new cells.
use Rattle.std.proofs.Common.{◌≡◌, ℕ, zero, suc, ◌+◌, ◌<◌, List, [], ◌∷◌, ◌++◌, length, length-append, get_or, Some, refl, ap, sym, ◌∙◌, arith}
use Rattle.std.specs.Prelude.{map, slice_get}
use Rattle.std.specs.List.{AllByRecursion}
use Rattle.plain_model.specs.declared.history.Line.{Line}
use Rattle.plain_model.specs.declared.plain.Kind.{Kind}
use Rattle.plain_model.specs.declared.report.CellDecl.{CellDecl}
use Rattle.version_slots.specs.Views.{counting}
use Rattle.interlocked.specs.Known.{Known, Shared}
use Rattle.interlocked.specs.Whole.{new_pass}
use Rattle.runs.specs.Places.{kinds_of}
use Rattle.seats.specs.Seats.{Seated}
use Rattle.seats.specs.Worked.{IsReady}
use Rattle.seats.proofs.NewPasses.{new_passes_long}
use Rattle.workers.specs.Opened.{AreCells, IsOpened, all_passes, new_seat, no_logs, passes_of, seat_of}
use Rattle.workers.specs.Tables.{AreColumnsOf}
use Rattle.workers.proofs.Lists.{all_by_index, all_weaker, index_map, length_map, one_there, same_lists}
use Rattle.workers.proofs.Columns.{column_is}

-- ---- passes

counted : {B : Type 0} (f : ℕ → B) (from n k : ℕ) → k < n → slice_get (map f (counting from n)) k ≡ Some (f (from + k))
counted f from zero k lt = absurd (omega arith)
counted f from (suc n) zero lt = ap (λ m. Some (f m)) (omega arith)
counted f from (suc n) (suc k) lt = counted f (suc from) n k (omega arith) ∙ ap (λ m. Some (f m)) (omega arith)

-- the pass of the worker at a place
new_there : (c : Shared) (k : ℕ) → k < c.passes → slice_get (all_passes c) k ≡ Some (new_pass c.table c.passes c.first (k + 1))
new_there c k lt = counted (new_pass c.table c.passes c.first) 1 c.passes k lt ∙ ap (λ m. Some (new_pass c.table c.passes c.first m)) (omega arith)

passes_long : (c : Shared) → length (all_passes c) ≡ c.passes
passes_long c = new_passes_long c.table c.passes c.first

module _ (n : ℕ) (decls : List CellDecl) (cells : List Shared) (opened : AreCells n decls cells) where
  have_passes : AllByRecursion (λ c. c.passes ≡ n) cells
  have_passes = all_by_index (λ c. c.passes ≡ n) cells (λ k s lt.
      let d : CellDecl = (one_there decls k (let e = opened.many in omega arith)).0 in
      (opened.each k d s lt).passes)

  -- each cell has a pass for each worker
  pub all_wide : AllByRecursion (λ row. length row ≡ n) (map all_passes cells)
  all_wide = go cells have_passes
    where
      go : (cs : List Shared) → AllByRecursion (λ c. c.passes ≡ n) cs → AllByRecursion (λ row. length row ≡ n) (map all_passes cs)
      go [] all = tt
      go (c ∷ cs) all = (passes_long c ∙ all.0, go cs all.1)

  rows_are : (rows : List (List Known)) → AreColumnsOf n (map all_passes cells) rows → (k : ℕ) (d : List Known) → k < n → get_or rows k d ≡ passes_of (k + 1) cells
  rows_are rows of k d lt =
      column_is all_passes (λ c. new_pass c.table c.passes c.first (k + 1)) k cells (get_or rows k d)
      (all_weaker (λ c e. new_there c k (omega (arith, e, lt))) cells have_passes) (of.each k d lt)

  -- the worker at a place has a new seat
  pub seats_are : (rows : List (List Known)) → AreColumnsOf n (map all_passes cells) rows → (seats : List Seated) → seats ≡ map (seat_of cells) rows → (k : ℕ) (t : Seated) → k < n → get_or seats k t ≡ new_seat (k + 1) cells
  seats_are rows of seats are k t lt =
      let low : k < length rows = let e = of.many in omega arith in
      let d : List Known = (one_there rows k low).0 in
      ap (λ ss. get_or ss k t) are ∙ (index_map (seat_of cells) rows k d t low ∙ ap (seat_of cells) (rows_are rows of k d lt))

  -- ---- readiness

  no_lines : (cs : List Shared) → AllByRecursion (λ (log : List Line). log ≡ []) (no_logs cs)
  no_lines [] = tt
  no_lines (c ∷ cs) = (refl, no_lines cs)

  pass_at : (w k : ℕ) (p : Known) (s : Shared) → k < length cells → get_or (passes_of w cells) k p ≡ new_pass (get_or cells k s).table (get_or cells k s).passes (get_or cells k s).first w
  pass_at w k p s lt = index_map (λ c. new_pass c.table c.passes c.first w) cells k s p lt

  kinds : (w : ℕ) → map (λ p. p.kind) (passes_of w cells) ≡ kinds_of decls
  kinds w = same_lists (map (λ (p : Known). p.kind) (passes_of w cells)) (kinds_of decls) long same
    where
      long : length (map (λ (p : Known). p.kind) (passes_of w cells)) ≡ length (kinds_of decls)
      long = length_map (λ (p : Known). p.kind) (passes_of w cells) ∙ (length_map (λ c. new_pass c.table c.passes c.first w) cells ∙ (opened.many ∙ sym (length_map (λ (d : CellDecl). d.kind) decls)))

      same : (k : ℕ) (e : Kind) → k < length (map (λ (p : Known). p.kind) (passes_of w cells)) → get_or (map (λ (p : Known). p.kind) (passes_of w cells)) k e ≡ get_or (kinds_of decls) k e
      same k e lt =
          let many = length_map (λ (p : Known). p.kind) (passes_of w cells) in
          let all = length_map (λ (c : Shared). new_pass c.table c.passes c.first w) cells in
          let low : k < length cells = omega (arith, lt, many, all) in
          let within : k < length decls = let e = opened.many in omega (arith, low) in
          let s : Shared = (one_there cells k low).0 in
          let d : CellDecl = (one_there decls k within).0 in
          let p : Known = new_pass s.table s.passes s.first w in
          index_map (λ (p : Known). p.kind) (passes_of w cells) k p e (omega (arith, low, all)) ∙ (ap (λ (p : Known). p.kind) (pass_at w k p s low)
          ∙ ((opened.each k d s low).kind ∙ sym (index_map (λ (d : CellDecl). d.kind) decls k d e within)))

  abbrev no_line : Shared → List Line
  no_line c = []

  pub seat_is_ready : (w : ℕ) → IsReady decls (new_seat w cells)
  seat_is_ready w = record {
    kinds = kinds w;
    seat = record {
      passes = length_map (λ c. new_pass c.table c.passes c.first w) cells;
      logs = length_map no_line cells;
      table = λ k p c lt. ap (λ (q : Known). q.table) (pass_at w k p c lt);
      below = λ k p lt. let s : Shared = (one_there cells k lt).0 in let e = ap (λ (q : Known). q.last) (pass_at w k p s lt) in omega (arith, e);
      last = omega arith;
    };
    logs = no_lines cells;
  }

-- ---- one cell more

pairs_snoc : {A B : Type 0} (P : A → B → Type 0) (xs : List A) (ys : List B) (x : A) (y : B) → length ys ≡ length xs → ((k : ℕ) (a : A) (b : B) → k < length ys → P (get_or xs k a) (get_or ys k b))
    → P x y → (k : ℕ) (a : A) (b : B) → k < length (ys ++ y ∷ []) → P (get_or (xs ++ x ∷ []) k a) (get_or (ys ++ y ∷ []) k b)
pairs_snoc P [] [] x y e h last zero a b lt = last
pairs_snoc P [] [] x y e h last (suc k) a b lt = absurd (omega (arith, lt))
pairs_snoc P [] (z ∷ ys) x y e h last k a b lt = absurd (omega (arith, e))
pairs_snoc P (w ∷ xs) [] x y e h last k a b lt = absurd (omega (arith, e))
pairs_snoc P (w ∷ xs) (z ∷ ys) x y e h last zero a b lt = h 0 a b (omega arith)
pairs_snoc P (w ∷ xs) (z ∷ ys) x y e h last (suc k) a b lt = pairs_snoc P xs ys x y (omega (arith, e)) (λ j c d low. h (suc j) c d (omega (arith, low))) last k a b (omega (arith, lt))

pub cells_snoc : (n : ℕ) (ds : List CellDecl) (cs : List Shared) (d : CellDecl) (c : Shared) → AreCells n ds cs → IsOpened n d c → AreCells n (ds ++ d ∷ []) (cs ++ c ∷ [])
cells_snoc n ds cs d c are last = record {
  many = let x = length-append cs (c ∷ []) in let y = length-append ds (d ∷ []) in let e = are.many in omega (arith, x, y, e);
  each = pairs_snoc (IsOpened n) ds cs d c are.many are.each last;
}
