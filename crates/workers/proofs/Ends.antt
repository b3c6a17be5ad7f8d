-- The passes of a cell after the last call, and its report.
use native.Mathlib.Decide.{dec_lt}
use Rattle.std.proofs.Common.{◌≡◌, ℕ, zero, suc, ◌+◌, ◌-◌, ◌<◌, ◌≤◌, List, [], ◌∷◌, ◌++◌, All, length, length-append, get_or, drop, map, refl, ap, sym, subst, ◌∙◌, arith}
use Rattle.std.specs.Prelude.{Ok, Result}
use mathlib.Core.Option.{some}
use Rattle.plain_model.specs.declared.plain.Plain.{Plain}
use Rattle.plain_model.specs.declared.commands.PlainCall.{PlainCall}
use Rattle.plain_model.specs.declared.history.Line.{Line}
use Rattle.plain_model.specs.declared.history.Refusal.{Refusal}
use Rattle.plain_model.specs.declared.report.CellDecl.{CellDecl}
use Rattle.plain_model.specs.Plain.{first_value}
use Rattle.version_slots.specs.Cells.{AreAll}
use Rattle.interlocked.specs.declared.entry.Entry.{Entry}
use Rattle.interlocked.specs.Known.{Known, Shared}
use Rattle.interlocked.specs.Whole.{new_pass}
use Rattle.history_merge.specs.Logs.{AreLogs, IsMerged}
use Rattle.seats.specs.Ends.{EndsWith}
use Rattle.plain_model.specs.declared.report.CellReport.{CellReport}
use Rattle.workers.specs.Closed.{AreClosedTo, AreLogged, IsClosed}
use Rattle.workers.specs.Hands.{Handed, columns_of}
use Rattle.workers.specs.Opened.{IsOpened}
use Rattle.workers.proofs.Gathered.{columns_there}
use Rattle.workers.proofs.Histories.{are_logs}
use Rattle.workers.proofs.Lists.{elem_there, index_map, length_map}

module _ (n : ℕ) (c : Shared) (column : Handed) (are : AreLogged n c column) where
  pub tables : All (λ (p : Known). p.table ≡ c.table) column.passes
  tables k q lt = (are.each k q (let e = are.passes in omega arith)).later.table

  pub all_numbers : c.passes ≡ n → AreAll c.passes (map (λ (p : Known). p.view) column.passes)
  all_numbers count number low high =
      let k : ℕ = number - 1 in
      let lt : k < n = omega (arith, low, high, count) in
      let q : Known = new_pass c.table c.passes c.first 1 in
      let within : k < length column.passes = let e = are.passes in omega (arith, lt) in
      let many = length_map (λ (p : Known). p.view) column.passes in (
        k,
        (get_or column.passes k q).view,
        elem_there (map (λ (p : Known). p.view) column.passes) k q.view (omega (arith, within, many)) ∙ ap (λ v. some v) (index_map (λ (p : Known). p.view) column.passes k q q.view within),
        (are.each k q lt).later.number ∙ omega (arith, low),
      )

  -- the report of a cell
  pub is_closed : (d : CellDecl) → IsOpened n d c → (first last : Plain) (lines : List Line) → first_value d.kind d.values ≡ Ok first
      → EndsWith c.first (map (λ (p : Known). p.view) column.passes) last
      → ((first : Plain) (entries : List (Entry PlainCall)) → AreLogs first entries column.logs → IsMerged first entries column.logs lines)
      → IsClosed d c column (record { cell = d; first = first; lines = lines; last = last })
  is_closed d opened first last lines begins ends merged = record {
    front = ends.front;
    kept = ends.kept;
    lines = lines;
    whole = ends.whole;
    merged = merged c.first.value ends.kept.entries (are_logs n c column are ends.front ends.kept ends.whole);
    report = ap (λ (p : Plain). record { cell = d; first = p; lines = lines; last = last }) (the_ok first c.first.value (first_value d.kind d.values) begins opened.first) ∙ ap (λ (p : Plain). record { cell = d; first = c.first.value; lines = lines; last = p }) ends.value;
  }
    where
      the_ok : (x y : Plain) (r : Result Plain Refusal) → r ≡ Ok x → r ≡ Ok y → x ≡ y
      the_ok x y r e f = cc

-- ---- one cell more

same_there : {A : Type 0} (xs : List A) (k : ℕ) (d e : A) → k < length xs → get_or xs k d ≡ get_or xs k e
same_there [] k d e lt = absurd (omega (arith, lt))
same_there (x ∷ xs) zero d e lt = refl
same_there (x ∷ xs) (suc k) d e lt = same_there xs k d e (omega (arith, lt))

snoc_there : {A : Type 0} (xs : List A) (y : A) (k : ℕ) (d : A) → k < length xs → get_or (xs ++ y ∷ []) k d ≡ get_or xs k d
snoc_there [] y k d lt = absurd (omega (arith, lt))
snoc_there (x ∷ xs) y zero d lt = refl
snoc_there (x ∷ xs) y (suc k) d lt = snoc_there xs y k d (omega (arith, lt))

-- what comes behind so many stands at that place
pub middle_there : {A : Type 0} (xs : List A) (y : A) (ys all : List A) (k : ℕ) (d : A) → k ≡ length xs → xs ++ y ∷ ys ≡ all → (k < length all) × (get_or all k d ≡ y)
middle_there {A} xs y ys all k d e is = let h = go xs k e in (subst (λ (l : List A). k < length l) is h.0, ap (λ (l : List A). get_or l k d) (sym is) ∙ h.1)
  where
    go : (xs : List A) (k : ℕ) → k ≡ length xs → (k < length (xs ++ y ∷ ys)) × (get_or (xs ++ y ∷ ys) k d ≡ y)
    go [] zero e = (omega arith, refl)
    go [] (suc k) e = absurd (omega (arith, e))
    go (x ∷ xs) zero e = absurd (omega (arith, e))
    go (x ∷ xs) (suc k) e = let h = go xs k (omega (arith, e)) in (omega (arith, h.0), h.1)

-- the first of those that are left stands at their place
pub next_there : {A : Type 0} (xs : List A) (k : ℕ) (y : A) (ys : List A) (d : A) → drop k xs ≡ y ∷ ys → (k < length xs) × (get_or xs k d ≡ y) × (drop (suc k) xs ≡ ys)
next_there [] zero y ys d e = cc
next_there [] (suc k) y ys d e = cc
next_there (x ∷ xs) zero y ys d e = (omega arith, ap (first x) e, ap rest e)
  where
    first : {A : Type 0} → A → List A → A
    first d [] = d
    first d (z ∷ zs) = z

    rest : {A : Type 0} → List A → List A
    rest [] = []
    rest (z ∷ zs) = zs
next_there (x ∷ xs) (suc k) y ys d e = let h = next_there xs k y ys d e in (omega (arith, h.0), h.1, h.2)

-- where nothing is left, the place is behind the last
pub none_left : {A : Type 0} (xs : List A) (k : ℕ) → length (drop k xs) ≡ 0 → length xs ≤ k
none_left [] k e = omega arith
none_left (x ∷ xs) zero e = absurd (omega (arith, e))
none_left (x ∷ xs) (suc k) e = let h = none_left xs k e in omega (arith, h)

-- a place of columns is one of the passes and one of the logs
pub columns_within : (ps : List (List Known)) (ls : List (List (List Line))) (c : ℕ) → c < length (columns_of ps ls) → (c < length ps) × (c < length ls)
columns_within [] ls c lt = absurd (omega (arith, lt))
columns_within (p ∷ ps) [] c lt = absurd (omega (arith, lt))
columns_within (p ∷ ps) (l ∷ ls) zero lt = (omega arith, omega arith)
columns_within (p ∷ ps) (l ∷ ls) (suc c) lt = let h = columns_within ps ls c (omega (arith, lt)) in (omega (arith, h.0), omega (arith, h.1))

pub closed_snoc : (n : ℕ) (decls : List CellDecl) (cells : List Shared) (columns : List Handed) (reports : List CellReport) (d : CellDecl) (s : Shared) (h : Handed) (r : CellReport)
    → AreClosedTo n decls cells columns reports → n < length decls → n < length cells → n < length columns → d ≡ get_or decls n d → s ≡ get_or cells n s → h ≡ get_or columns n h
    → IsClosed d s h r → AreClosedTo (n + 1) decls cells columns (reports ++ r ∷ [])
closed_snoc n decls cells columns reports d s h r closed in_decls in_cells in_columns at_d at_s at_h one = record {
  many = length-append reports (r ∷ []) ∙ ap (λ m. m + 1) closed.many;
  each = λ c d' s' h' r' lt. split c d' s' h' r' lt (dec_lt c n);
}
  where
    split : (c : ℕ) (d' : CellDecl) (s' : Shared) (h' : Handed) (r' : CellReport) → c < n + 1 → Dec (c < n) → IsClosed (get_or decls c d') (get_or cells c s') (get_or columns c h') (get_or (reports ++ r ∷ []) c r')
    split c d' s' h' r' lt (yes low) =
        subst (λ (x : CellReport). IsClosed (get_or decls c d') (get_or cells c s') (get_or columns c h') x) (sym (snoc_there reports r c r' (let e = closed.many in omega (arith, low, e)))) (closed.each c d' s' h' r' low)
    split c d' s' h' r' lt (no high) =
        let here : c ≡ n = omega (arith, lt, high) in
        subst (λ (k : ℕ). IsClosed (get_or decls k d') (get_or cells k s') (get_or columns k h') (get_or (reports ++ r ∷ []) k r')) (sym here)
        (subst (λ (x : CellReport). IsClosed (get_or decls n d') (get_or cells n s') (get_or columns n h') x) (sym (middle_there reports r [] (reports ++ r ∷ []) n r' (sym closed.many) refl).1)
        (subst (λ (x : Handed). IsClosed (get_or decls n d') (get_or cells n s') x r) (at_h ∙ same_there columns n h h' in_columns)
        (subst (λ (x : Shared). IsClosed (get_or decls n d') x h r) (at_s ∙ same_there cells n s s' in_cells)
        (subst (λ (x : CellDecl). IsClosed x s h r) (at_d ∙ same_there decls n d d' in_decls) one))))

-- the column of the passes and the logs that come next
pub column_here : {A B : Type 0} (f : A → List Known) (g : B → List (List Line)) (ps : List A) (ls : List B) (k : ℕ) (p : A) (ps' : List A) (l : B) (ls' : List B) (h : Handed) → drop k ps ≡ p ∷ ps' → drop k ls ≡ l ∷ ls'
    → get_or (columns_of (map f ps) (map g ls)) k h ≡ record { passes = f p; logs = g l }
column_here f g ps ls k p ps' l ls' h e i =
    let a = next_there ps k p ps' p e in
    let b = next_there ls k l ls' l i in
    let long = length_map f ps in
    let many = length_map g ls in
    columns_there (map f ps) (map g ls) k h (omega (arith, a.0, long)) (omega (arith, b.0, many))
    ∙ (ap (λ (x : List Known). record { passes = x; logs = get_or (map g ls) k [] }) (index_map f ps k p [] a.0 ∙ ap f a.1) ∙ ap (λ (x : List (List Line)). record { passes = f p; logs = x }) (index_map g ls k l [] b.0 ∙ ap g b.1))
