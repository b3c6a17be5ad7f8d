-- Words and the one task that they ask for, if they do.
use Rattle.std.proofs.Common.{◌≡◌, ℕ, ◌≤◌, ◌<◌, ◌^◌, List, [], ◌∷◌, length, refl, ap, sym, subst, ◌∙◌, arith}
use Rattle.std.specs.Prelude.{Result, Ok, Err, Vec, codes}
use Rattle.std.specs.Result.{IsErrAnd}
use Rattle.std.specs.Fmt.{decimal}
use Rattle.std.proofs.lemmas.Fmt.{decimal_injective}
use Rattle.generator.specs.declared.scripts.TheConstants.{NUMBER_LIMIT}
use Rattle.plain_model.specs.declared.report.Script.{Script}
use Rattle.immrun_core.specs.declared.status.Status.{Status}
use Rattle.immrun_core.specs.declared.status.Status.TheVariants.{Done, Usage, Refused, ReadFault, WriteFault, Memory, TooLong}
use Rattle.workers.specs.declared.lanes.TheConstants.{WORKERS_LIMIT}
use Rattle.immrun_core.specs.declared.task.Task.{Task}
use Rattle.immrun_core.specs.declared.task.Task.TheVariants.{Run, Check, Gen}
use Rattle.immrun_core.specs.declared.word.Word.{Word}
use Rattle.immrun_core.specs.declared.word.Word.TheVariants.{Short}
use Rattle.immrun_core.specs.Outside.{max_input, SourceEnds, SinkEnds, Unread, Unwritten}
use Rattle.immrun_core.specs.Top.{words_for, IsTask, Asks, IsKnown, IsRead, HasScript, ReadsUntil, Stops, TextEnd, Ended}

pub no_task : (words : List Word) → ¬ (words ≡ words_for Check) → ((n : ℕ) → ¬ Asks words (Run n)) → ((n : ℕ) → ¬ Asks words (Gen n)) → ¬ IsKnown words
no_task words check run gen (Run n, asks) = run n asks
no_task words check run gen (Check, asks) = check asks.0
no_task words check run gen (Gen n, asks) = gen n asks

-- the words that have a number behind a name
abbrev numbered : List ℕ → ℕ → List Word
numbered name n = Short name ∷ Short (decimal n) ∷ []

same_number : (name : List ℕ) (words : List Word) (k n : ℕ) → words ≡ numbered name k → words ≡ numbered name n → k < 2 ^ 64 → n < 2 ^ 64 → k ≡ n
same_number name words k n p q wide wide' =
    let e : numbered name k ≡ numbered name n = sym p ∙ q in
    let same : decimal k ≡ decimal n = cc in
    decimal_injective k n wide wide' same

-- a run has no such number of workers
pub no_run : (words : List Word) (k n : ℕ) → words ≡ words_for (Run k) → k < 2 ^ 32 → ¬ IsTask (Run k) → ¬ Asks words (Run n)
no_run words k n e wide other asks =
    let few : n ≤ WORKERS_LIMIT = asks.1.1 in
    let same = same_number (codes "run") words k n e asks.0 (omega arith) (omega arith) in
    other (subst (λ m. IsTask (Run m)) (sym same) asks.1)

-- a script has no such number
pub no_generated : (words : List Word) (k n : ℕ) → words ≡ words_for (Gen k) → k < 2 ^ 32 → ¬ IsTask (Gen k) → ¬ Asks words (Gen n)
no_generated words k n e wide other asks =
    let low : n ≤ NUMBER_LIMIT = asks.1 in
    let same = same_number (codes "gen") words k n e asks.0 (omega arith) (omega arith) in
    other (subst (λ m. IsTask (Gen m)) (sym same) asks.1)

-- the first byte of the first word
abbrev first_byte : List Word → ℕ
first_byte (Short (b ∷ bs) ∷ words) = b
first_byte _ = 0

pub one_task : (words : List Word) (a b : Task) → Asks words a → Asks words b → a ≡ b
one_task words (Run m) (Run n) p q =
    let few : m ≤ WORKERS_LIMIT = p.1.1 in
    let few' : n ≤ WORKERS_LIMIT = q.1.1 in
    ap Run (same_number (codes "run") words m n p.0 q.0 (omega arith) (omega arith))
one_task words Check Check p q = refl
one_task words (Gen m) (Gen n) p q =
    let low : m ≤ NUMBER_LIMIT = p.1 in
    let low' : n ≤ NUMBER_LIMIT = q.1 in
    ap Gen (same_number (codes "gen") words m n p.0 q.0 (omega arith) (omega arith))
one_task words (Run m) Check p q = let e : 114 ≡ 99 = ap first_byte (sym p.0 ∙ q.0) in absurd (omega (arith, e))
one_task words (Run m) (Gen n) p q = let e : 114 ≡ 103 = ap first_byte (sym p.0 ∙ q.0) in absurd (omega (arith, e))
one_task words Check (Run n) p q = let e : 99 ≡ 114 = ap first_byte (sym p.0 ∙ q.0) in absurd (omega (arith, e))
one_task words Check (Gen n) p q = let e : 99 ≡ 103 = ap first_byte (sym p.0 ∙ q.0) in absurd (omega (arith, e))
one_task words (Gen m) (Run n) p q = let e : 103 ≡ 114 = ap first_byte (sym p.0 ∙ q.0) in absurd (omega (arith, e))
one_task words (Gen m) Check p q = let e : 103 ≡ 99 = ap first_byte (sym p.0 ∙ q.0) in absurd (omega (arith, e))

read_later : (q : SourceEnds) (script : Script) → IsRead q script → ReadsUntil q Memory
read_later q script r = record { input = r.input; consumed = r.read.consumed; fits = let short : length r.input ≤ max_input = r.read.short in omega arith }

-- a task that stopped, and wrote nothing
pub stopped_so : (task : Task) (q : SourceEnds) (s : SinkEnds) (status : Status) → Stops task q status → Unwritten s → Ended task q s status
stopped_so (Run n) q s Done stops none = absurd stops
stopped_so Check q s Done stops none = absurd stops
stopped_so (Gen n) q s Done stops none = absurd stops
stopped_so (Run n) q s WriteFault stops none = absurd stops
stopped_so Check q s WriteFault stops none = absurd stops
stopped_so (Gen n) q s WriteFault stops none = absurd stops
stopped_so task q s Usage stops none = record { stops = stops; unwritten = none }
stopped_so task q s (Refused line code) stops none = record { stops = stops; unwritten = none }
stopped_so task q s ReadFault stops none = record { stops = stops; unwritten = none }
stopped_so task q s Memory stops none = record { stops = stops; unwritten = none }
stopped_so task q s TooLong stops none = record { stops = stops; unwritten = none }

-- a task whose script was had may still run out of memory
pub stops_later : (task : Task) (q : SourceEnds) (script : Script) → HasScript task q script → Stops task q Memory
stops_later (Run n) q script has = read_later q script has
stops_later Check q script has = read_later q script has
stops_later (Gen n) q script has = has.1

-- a generated script is stopped by want of memory alone
pub memory_stops : {Z : Type 0} (n : ℕ) (r : Result (Vec ℕ Z) Status) → IsErrAnd r (λ status. status ≡ Memory) → (q : SourceEnds) → Unread q → TextEnd (Gen n) q r
memory_stops n (Ok text) memory q unread = absurd memory
memory_stops n (Err status) memory q unread = subst (Stops (Gen n) q) (sym memory) unread

-- no task ends as words that ask for none do
pub no_usage : (task : Task) (q : SourceEnds) (s : SinkEnds) → Ended task q s Usage → ⊥
no_usage (Run n) q s h = h.stops
no_usage Check q s h = h.stops
no_usage (Gen n) q s h = h.stops
