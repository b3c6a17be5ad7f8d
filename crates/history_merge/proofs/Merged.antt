-- The woven logs are one legal history, in which each log stands whole.
use Rattle.std.proofs.Common.{◌≡◌, ℕ, zero, suc, ◌+◌, ◌*◌, ◌<◌, ◌≤◌, ◌==◌, ◌≢◌, Bool, true, false, if◌then◌else◌, MatchBool, List, [], ◌∷◌, length, map, fold, nat_lt, slice_index_or, refl, ap, sym, subst, ◌∙◌, arith}
use Rattle.std.specs.List.{AllByRecursion}
use Rattle.std.proofs.lemmas.Bool.Decides.{nat_tests}
use Rattle.interlocked.specs.declared.entry.Entry.{Entry}
use Rattle.plain_model.specs.declared.plain.Plain.{Plain}
use Rattle.plain_model.specs.declared.commands.PlainCall.{PlainCall}
use Rattle.plain_model.specs.declared.history.Line.{Line}
use Rattle.plain_model.specs.History.{IsBefore, InOrder}
use Rattle.history_merge.specs.Lines.{lines_by, installed_of, place_of, is_below}
use Rattle.history_merge.specs.Logs.{entry_of, entries_by, IsInstalled, IsAnswered, IsRight, IsRising, IsLog, AreLogs, IsMerged, weave, woven}
use Rattle.history_merge.proofs.Order.{lex_tie}
use Rattle.history_merge.proofs.Weaves.{weave_all, weave_total, weave_left, weave_right, weave_rising}
use Rattle.history_merge.proofs.Walk.{count, IsPast, walk}

-- how many entries have a caller up to k
abbrev upto : ℕ → List (Entry PlainCall) → ℕ
upto k [] = 0
upto k (e ∷ es) = (if nat_lt k e.caller then 0 else 1) + upto k es

upto_next : (k : ℕ) (es : List (Entry PlainCall)) → upto (k + 1) es ≡ upto k es + length (entries_by (k + 1) es)
upto_next k [] = refl
upto_next k (e ∷ es) = grind (arith, nat_tests, upto_next k es)

upto_none : (es : List (Entry PlainCall)) (n : ℕ) → AllByRecursion (λ e. (0 < e.caller) × (e.caller ≤ n)) es → upto 0 es ≡ 0
upto_none [] n all = refl
upto_none (e ∷ es) n all = grind (arith, nat_tests, upto_none es n all.1)

upto_all : (es : List (Entry PlainCall)) (n : ℕ) → AllByRecursion (λ e. (0 < e.caller) × (e.caller ≤ n)) es → upto n es ≡ length es
upto_all [] n all = refl
upto_all (e ∷ es) n all = grind (arith, nat_tests, upto_all es n all.1)

count_is : (ls : List Line) → count ls ≡ length (installed_of ls)
count_is [] = refl
count_is (l ∷ ls) =
    let inner = count_is ls in
    elim l.installed as (λ b. (if b then 1 else 0) + count ls ≡ length (if b then l ∷ installed_of ls else installed_of ls)) [ true ↦ omega (arith, inner) | false ↦ omega (arith, inner) ]

length_map : (f : Line → Entry PlainCall) (ls : List Line) → length (map f ls) ≡ length ls
length_map f [] = refl
length_map f (l ∷ ls) = ap suc (length_map f ls)

-- what holds of each line, and more, holds of each
weaker : {P Q : Line → Type 0} → ((l : Line) → P l → Q l) → (ls : List Line) → AllByRecursion P ls → AllByRecursion Q ls
weaker f [] all = tt
weaker f (l ∷ ls) all = (f l all.0, weaker f ls all.1)

-- all lines are the caller's
all_pass : (caller : ℕ) (ls : List Line) → AllByRecursion (λ l. l.caller ≡ caller) ls → lines_by caller ls ≡ ls
all_pass caller [] all = refl
all_pass caller (l ∷ ls) all =
    let test : (l.caller == caller) ≡ true = grind (arith, nat_tests, all.0) in
    rw test (ap (λ xs. l ∷ xs) (all_pass caller ls all.1))

other_caller : (a b : ℕ) → a ≢ b → (a == b) ≡ false
other_caller a b ne = grind (arith, nat_tests)

-- of two calls at one position that did not install, the lower one is before the other
in_order_next : (x y : Line) → is_below x y ≡ true → x.installed ≡ false → y.installed ≡ false → x.position ≡ y.position → IsBefore x y
in_order_next x y below xi yi same =
    let px : place_of x ≡ 2 * x.position + 1 = rw xi (omega arith) in
    let py : place_of y ≡ 2 * y.position + 1 = rw yi (omega arith) in
    let tie : place_of x ≡ place_of y = omega arith in
    lex_tie (place_of x) x.caller x.ordinal (place_of y) y.caller y.ordinal below tie

in_order : (ls : List Line) → IsRising ls → InOrder ls
in_order [] up = tt
in_order (x ∷ []) up = tt
in_order (x ∷ y ∷ ls) up = (in_order_next x y up.0.0, in_order (y ∷ ls) up.1)

module _ (first : Plain) (es : List (Entry PlainCall)) where
  -- each line stands above the beginning
  past_none : (l : Line) → (b : Bool) → l.installed ≡ b → MatchBool b (IsInstalled first es l) (IsAnswered first es l) → IsPast 0 l
  past_none l true is right =
      let above = right.above in
      let place : place_of l ≡ 2 * l.position = rw is (omega arith) in
      omega arith
  past_none l false is right =
      let place : place_of l ≡ 2 * l.position + 1 = rw is (omega arith) in
      omega arith

  -- the logs of the callers up to k, put together
  record IsPart (k : ℕ) (ls : List Line) : Type 0 where
    right : AllByRecursion (IsRight first es) ls
    callers : AllByRecursion (λ l. (0 < l.caller) × (l.caller < k + 1)) ls
    rising : IsRising ls
    full : count ls ≡ upto k es

  next_part : (k : ℕ) (ls log : List Line) → IsPart k ls → IsLog first es (k + 1) log → IsPart (k + 1) (weave ls log)
  next_part k ls log part one = record {
    right = weave_all (IsRight first es) ls part.right log one.right;
    callers = weave_all (λ l. (0 < l.caller) × (l.caller < (k + 1) + 1)) ls (weaker (λ l h. (h.0, omega (arith, h.1))) ls part.callers) log (weaker (λ l h. (omega (arith, h), omega (arith, h))) log one.by);
    rising = weave_rising (k + 1) ls (weaker (λ l h. h.1) ls part.callers) part.rising log one.by one.rising;
    full =
        let installed : count log ≡ length (entries_by (k + 1) es) = count_is log ∙ (sym (length_map entry_of (installed_of log)) ∙ ap length one.mine) in
        let sum : count (weave ls log) ≡ count ls + count log = weave_total (λ l. if l.installed then 1 else 0) ls log in
        omega (arith, upto_next k es, part.full);
  }

  -- of an earlier caller the next log adds nothing
  kept : (k w : ℕ) → w < k + 1 → (ls log : List Line) → IsLog first es (k + 1) log → lines_by w (weave ls log) ≡ lines_by w ls
  kept k w lt ls log one = weave_left (λ l. l.caller == w) ls log (weaker (λ l h. other_caller l.caller w (omega (arith, h))) log one.by)

  -- and of its own caller it has all
  added : (k : ℕ) (ls log : List Line) → IsPart k ls → IsLog first es (k + 1) log → lines_by (k + 1) (weave ls log) ≡ log
  added k ls log part one =
      weave_right (λ l. l.caller == k + 1) ls (weaker (λ l h. other_caller l.caller (k + 1) (omega (arith, h.1))) ls part.callers) log ∙ all_pass (k + 1) log one.by

  abbrev Rest : ℕ → List Line → List (List Line) → List Line → Type 0
  Rest k ls logs all =
      IsPart (k + length logs) all
      × ((w : ℕ) → w < k + 1 → lines_by w all ≡ lines_by w ls)
      × ((j : ℕ) → j < length logs → lines_by (k + (j + 1)) all ≡ slice_index_or logs j [])

  rest : (k : ℕ) (ls : List Line) (logs : List (List Line)) → IsPart k ls → ((j : ℕ) → j < length logs → IsLog first es (k + (j + 1)) (slice_index_or logs j [])) → Rest k ls logs (fold weave ls logs)
  rest k ls [] part each = (subst (λ (n : ℕ). IsPart n ls) (omega arith) part, (λ w lt. refl), λ j lt. absurd (omega arith))
  rest k ls (log ∷ logs) part each =
      let one : IsLog first es (k + 1) log = each 0 (omega arith) in
      let tail = rest (k + 1) (weave ls log) logs (next_part k ls log part one) (λ j lt. subst (λ (n : ℕ). IsLog first es n (slice_index_or logs j [])) (omega arith) (each (suc j) (omega arith))) in (
        subst (λ (n : ℕ). IsPart n (fold weave (weave ls log) logs)) (omega arith) tail.0,
        (λ w lt. tail.1 w (omega arith) ∙ kept k w lt ls log one),
        whole (tail.1 (k + 1) (omega arith) ∙ added k ls log part one) tail.2,
      )
    where
      whole : lines_by (k + 1) (fold weave (weave ls log) logs) ≡ log → ((j : ℕ) → j < length logs → lines_by ((k + 1) + (j + 1)) (fold weave (weave ls log) logs) ≡ slice_index_or logs j [])
          → (j : ℕ) → j < suc (length logs) → lines_by (k + (j + 1)) (fold weave (weave ls log) logs) ≡ slice_index_or (log ∷ logs) j []
      whole here more zero lt = here
      whole here more (suc j) lt = subst (λ (n : ℕ). lines_by n (fold weave (weave ls log) logs) ≡ slice_index_or logs j []) (omega arith) (more j (omega arith))

-- what holds of each line of each log holds of each line
pub woven_all : (P : Line → Type 0) (ls : List Line) (logs : List (List Line)) → AllByRecursion P ls → ((k : ℕ) → k < length logs → AllByRecursion P (slice_index_or logs k [])) → AllByRecursion P (fold weave ls logs)
woven_all P ls [] all each = all
woven_all P ls (log ∷ logs) all each = woven_all P (weave ls log) logs (weave_all P ls all log (each 0 (omega arith))) (λ k lt. each (suc k) (omega arith))

-- the woven logs are one history of all
pub woven_merged : (first : Plain) (es : List (Entry PlainCall)) (logs : List (List Line)) → AreLogs first es logs → IsMerged first es logs (woven logs)
woven_merged first es logs are =
    let none : IsPart first es 0 [] = record { right = tt; callers = tt; rising = tt; full = sym (upto_none es (length logs) are.callers) } in
    let all = rest first es 0 [] logs none (λ j lt. subst (λ (n : ℕ). IsLog first es n (slice_index_or logs j [])) (omega arith) (are.each j lt)) in
    let part : IsPart first es (length logs) (woven logs) = subst (λ (n : ℕ). IsPart first es n (woven logs)) (omega arith) all.0 in
    let pasts : AllByRecursion (IsPast 0) (woven logs) = weaker (λ l h. past_none first es l l.installed refl h) (woven logs) part.right in
    let walked = walk first es 0 (omega arith) (woven logs) part.rising part.right pasts (omega (arith, part.full, upto_all es (length logs) are.callers)) in
    record {
      steps = walked.steps;
      order = in_order (woven logs) part.rising;
      last = walked.last;
      values = λ k high. walked.values k (omega arith) high;
      whole = λ k lt. subst (λ (n : ℕ). lines_by n (woven logs) ≡ slice_index_or logs k []) (omega arith) (all.2 k lt);
      callers = weaker (λ l h. (h.0, omega (arith, h.1))) (woven logs) part.callers;
      all = λ test each. woven_all (λ l. test l ≡ true) [] logs tt each;
    }
