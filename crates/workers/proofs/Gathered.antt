-- What all workers did, worker by worker and cell by cell.
use Rattle.std.proofs.Common.{◌≡◌, ℕ, zero, suc, ◌+◌, ◌<◌, List, [], ◌∷◌, length, get_or, Some, All, refl, ap, sym, subst, ◌∙◌, arith}
use Rattle.std.specs.Prelude.{Option, IfSome, map, slice_get}
use Rattle.std.specs.List.{AllByRecursion}
use Rattle.plain_model.specs.declared.history.Line.{Line}
use Rattle.plain_model.specs.declared.report.LocalLine.{LocalLine}
use Rattle.plain_model.specs.declared.report.Script.{Script}
use Rattle.plain_model.specs.Lawful.{parts_of}
use Rattle.interlocked.specs.Known.{Known, Shared}
use Rattle.seats.specs.Seats.{Seated}
use Rattle.seats.specs.Worked.{IsReady, IsWorked}
use Rattle.workers.specs.declared.lanes.Lane.{Lane}
use Rattle.workers.specs.Closed.{AreAllLogged}
use Rattle.workers.specs.Hands.{Handed, columns_of}
use Rattle.workers.specs.Lanes.{HasWorkedAt}
use Rattle.workers.specs.Opened.{AreCells, all_passes, new_seat, seat_of}
use Rattle.workers.specs.Tables.{AreColumnsOf}
use Rattle.workers.specs.Worked.{AreGathered, HaveWorked, column, passes_at}
use Rattle.workers.proofs.Begins.{seat_is_ready, seats_are}
use Rattle.workers.proofs.Columns.{column_is}
use Rattle.workers.proofs.Lists.{all_by_index, get_there, index_map, length_map, one_there}
use Rattle.workers.proofs.Reports.{logged_at}

-- a worker's lane
abbrev WorkerLane : Type 0
WorkerLane = Lane Seated (List LocalLine)

map_map : {A B C : Type 0} (f : B → C) (g : A → B) (xs : List A) → map (λ x. f (g x)) xs ≡ map f (map g xs)
map_map f g [] = refl
map_map f g (x ∷ xs) = ap (λ ys. f (g x) ∷ ys) (map_map f g xs)

pub columns_there : (ps : List (List Known)) (ls : List (List (List Line))) (c : ℕ) (h : Handed) → c < length ps → c < length ls
    → get_or (columns_of ps ls) c h ≡ record { passes = get_or ps c []; logs = get_or ls c [] }
columns_there [] ls c h low within = absurd (omega (arith, low))
columns_there (p ∷ ps) [] c h low within = absurd (omega (arith, within))
columns_there (p ∷ ps) (l ∷ ls) zero h low within = refl
columns_there (p ∷ ps) (l ∷ ls) (suc c) h low within = columns_there ps ls c h (omega (arith, low)) (omega (arith, within))

columns_long : (n : ℕ) (ps : List (List Known)) (ls : List (List (List Line))) → length ps ≡ n → length ls ≡ n → length (columns_of ps ls) ≡ n
columns_long n [] ls e f = e
columns_long n (p ∷ ps) [] e f = f
columns_long zero (p ∷ ps) (l ∷ ls) e f = absurd (omega (arith, e))
columns_long (suc n) (p ∷ ps) (l ∷ ls) e f = ap suc (columns_long n ps ls (omega (arith, e)) (omega (arith, f)))

module _ (script : Script) (n : ℕ) (cells : List Shared) (opened : AreCells n script.cells cells)
    (rows : List (List Known)) (dealt : AreColumnsOf n (map all_passes cells) rows)
    (olds : List WorkerLane) (seated : map (λ (l : WorkerLane). l.seat) olds ≡ map (seat_of cells) rows) where
  pub lanes_long : length olds ≡ n
  lanes_long = sym (length_map (λ (l : WorkerLane). l.seat) olds) ∙ (ap length seated ∙ (length_map (seat_of cells) rows ∙ dealt.many))

  seat_at : (k : ℕ) (l : WorkerLane) → k < n → (get_or olds k l).seat ≡ new_seat (k + 1) cells
  seat_at k l lt =
      let low : k < length olds = let e = lanes_long in omega arith in
      sym (index_map (λ (l : WorkerLane). l.seat) olds k l l.seat low) ∙ seats_are n script.cells cells opened rows dealt (map (λ (l : WorkerLane). l.seat) olds) seated k l.seat lt

  pub all_ready : All (λ (l : WorkerLane). IsReady script.cells l.seat) olds
  all_ready k l lt = subst (IsReady script.cells) (sym (seat_at k l (let e = lanes_long in omega arith))) (seat_is_ready n script.cells cells opened (k + 1))

  module _ (news : List WorkerLane) (same : length news ≡ length olds) (each : (k : ℕ) (d : WorkerLane) → k < length olds → HasWorkedAt script n k (get_or olds k d) (get_or news k d))
      (locals : List (List LocalLine)) (told : map (λ ls. Some ls) locals ≡ map (λ (l : WorkerLane). l.told) news) where
    news_long : length news ≡ n
    news_long = same ∙ lanes_long

    locals_long : length locals ≡ n
    locals_long = sym (length_map (λ ls. Some ls) locals) ∙ (ap length told ∙ (length_map (λ (l : WorkerLane). l.told) news ∙ news_long))

    told_at : (k : ℕ) (d : WorkerLane) (ls : List LocalLine) → k < n → (get_or news k d).told ≡ Some (get_or locals k ls)
    told_at k d ls lt =
        let low : k < length news = let e = news_long in omega arith in
        let within : k < length locals = let e = locals_long in omega arith in
        sym (index_map (λ (l : WorkerLane). l.told) news k d (Some ls) low) ∙ (ap (λ xs. get_or xs k (Some ls)) (sym told) ∙ index_map (λ ls. Some ls) locals k ls (Some ls) within)

    worked_at : (k : ℕ) (d : WorkerLane) (ls : List LocalLine) → k < n → IsWorked script.cells (parts_of (k + 1) n script.parts) (new_seat (k + 1) cells) (get_or news k d).seat (get_or locals k ls)
    worked_at k d ls lt =
        let low : k < length olds = let e = lanes_long in omega arith in
        let after : WorkerLane = get_or news k d in
        subst (λ s. IsWorked script.cells (parts_of (k + 1) n script.parts) s after.seat (get_or locals k ls)) (seat_at k d lt)
        (subst (λ (o : Option (List LocalLine)). IfSome o (λ lines. IsWorked script.cells (parts_of (k + 1) n script.parts) (get_or olds k d).seat after.seat lines)) (told_at k d ls lt) (each k d low))

    have_worked : HaveWorked script n cells (map (λ (l : WorkerLane). l.seat) news) locals
    have_worked = record {
      many = length_map (λ (l : WorkerLane). l.seat) news ∙ news_long;
      told = locals_long;
      each = λ k t ls lt.
          let low : k < length news = let e = news_long in omega arith in
          let d : WorkerLane = (one_there news k low).0 in
          subst (λ s. IsWorked script.cells (parts_of (k + 1) n script.parts) (new_seat (k + 1) cells) s (get_or locals k ls)) (sym (index_map (λ (l : WorkerLane). l.seat) news k d t low)) (worked_at k d ls lt);
    }

    all_at : (P : WorkerLane → Type 0) → ((k : ℕ) (d : WorkerLane) → k < n → P (get_or news k d)) → AllByRecursion P news
    all_at P h = all_by_index P news (λ k d lt. h k d (let e = news_long in omega arith))

    -- each worker has a pass and a log for each cell
    pub passes_wide : AllByRecursion (λ row. length row ≡ length cells) (map (λ (l : WorkerLane). l.seat.passes) news)
    passes_wide = over news (all_at (λ l. length l.seat.passes ≡ length cells) (λ k d lt. (worked_at k d [] lt).passes))
      where
        over : (ls : List WorkerLane) → AllByRecursion (λ l. length l.seat.passes ≡ length cells) ls → AllByRecursion (λ row. length row ≡ length cells) (map (λ (l : WorkerLane). l.seat.passes) ls)
        over [] all = tt
        over (l ∷ ls) all = (all.0, over ls all.1)

    pub logs_wide : AllByRecursion (λ row. length row ≡ length cells) (map (λ (l : WorkerLane). l.seat.logs) news)
    logs_wide = over news (all_at (λ l. length l.seat.logs ≡ length cells) (λ k d lt. (worked_at k d [] lt).logs))
      where
        over : (ls : List WorkerLane) → AllByRecursion (λ l. length l.seat.logs ≡ length cells) ls → AllByRecursion (λ row. length row ≡ length cells) (map (λ (l : WorkerLane). l.seat.logs) ls)
        over [] all = tt
        over (l ∷ ls) all = (all.0, over ls all.1)

    module _ (ps : List (List Known)) (ls : List (List (List Line))) (passes : AreColumnsOf (length cells) (map (λ (l : WorkerLane). l.seat.passes) news) ps)
        (logs : AreColumnsOf (length cells) (map (λ (l : WorkerLane). l.seat.logs) news) ls) where
      column_there : (c : ℕ) (h : Handed) (q : Known) → c < length cells → get_or (columns_of ps ls) c h ≡ column c q (map (λ (l : WorkerLane). l.seat) news)
      column_there c h q lt =
          let its : get_or ps c [] ≡ map (λ (l : WorkerLane). get_or l.seat.passes c q) news =
          column_is (λ (l : WorkerLane). l.seat.passes) (λ l. get_or l.seat.passes c q) c news (get_or ps c [])
          (all_at (λ l. slice_get l.seat.passes c ≡ Some (get_or l.seat.passes c q)) (λ k d low. get_there (get_or news k d).seat.passes c q (let e = (worked_at k d [] low).passes in omega (arith, lt, e)))) (passes.each c [] lt) in
          let noted : get_or ls c [] ≡ map (λ (l : WorkerLane). get_or l.seat.logs c []) news =
          column_is (λ (l : WorkerLane). l.seat.logs) (λ l. get_or l.seat.logs c []) c news (get_or ls c [])
          (all_at (λ l. slice_get l.seat.logs c ≡ Some (get_or l.seat.logs c [])) (λ k d low. get_there (get_or news k d).seat.logs c [] (let e = (worked_at k d [] low).logs in omega (arith, lt, e)))) (logs.each c [] lt) in
          columns_there ps ls c h (let e = passes.many in omega (arith, lt)) (let e = logs.many in omega (arith, lt))
          ∙ (ap (λ ps. record { passes = ps; logs = get_or ls c [] }) (its ∙ map_map (λ (s : Seated). get_or s.passes c q) (λ (l : WorkerLane). l.seat) news)
          ∙ ap (λ ls. record { passes = passes_at c q (map (λ (l : WorkerLane). l.seat) news); logs = ls }) (noted ∙ map_map (λ (s : Seated). get_or s.logs c []) (λ (l : WorkerLane). l.seat) news))

      pub all_gathered : AreGathered script n cells (columns_of ps ls) locals
      all_gathered = record {
        seats = map (λ (l : WorkerLane). l.seat) news;
        worked = have_worked;
        by_cell = record {
          many = columns_long (length cells) ps ls passes.many logs.many;
          each = column_there;
        };
      }

-- each cell is left as its workers noted
pub all_logged : (script : Script) (n : ℕ) (cells : List Shared) (columns : List Handed) (locals : List (List LocalLine)) → AreGathered script n cells columns locals → AreAllLogged n cells columns
all_logged script n cells columns locals g = record {
  many = g.by_cell.many;
  each = λ c s h lt.
      let q : Known = Rattle.interlocked.specs.Whole.new_pass s.table s.passes s.first 0 in
      subst (Rattle.workers.specs.Closed.AreLogged n (get_or cells c s)) (sym (g.by_cell.each c h q lt)) (logged_at script n cells g.seats locals g.worked c s q lt);
}
