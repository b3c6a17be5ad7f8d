-- Where nothing fails, the bytes decide the status.
use Rattle.std.proofs.Common.{◌≡◌, ℕ, ◌+◌, ◌<◌, ◌≤◌, List, ◌++◌, length, None, Some, Ok, Err, inl, inr, refl, ap, sym, ◌∙◌, arith, length-append}
use Rattle.std.specs.Prelude.{Option, Result}
use Rattle.std.specs.Io.KnownBytes.{Consumes, IsAtEnd}
use Rattle.std.proofs.lemmas.List.{append-nil}
use Rattle.plain_model.specs.declared.report.Script.{Script}
use Rattle.script.specs.declared.fault.ParseFault.{ParseFault}
use Rattle.script.specs.Grammar.{read_script}
use Rattle.immrun_core.specs.declared.task.Task.{Task}
use Rattle.immrun_core.specs.declared.task.Task.TheVariants.{Run, Check, Gen}
use Rattle.immrun_core.specs.declared.status.Status.{Status}
use Rattle.immrun_core.specs.declared.status.Status.TheVariants.{Done, Usage, Refused, ReadFault, WriteFault, Memory, TooLong}
use Rattle.immrun_core.specs.Outside.{max_input, SourceEnds, SinkEnds, ReadsAll, ReadsSome}
use Rattle.immrun_core.specs.Top.{IsRead, HasScript, ReadsUntil, Stops, Output, Ended, ReadingCompletes, Completes, Calm, OrMemory}

-- what was read to the end is all that there was
all_read : (q : SourceEnds) (input read : List ℕ) → q.left ≡ Some input → ReadsAll q read → input ≡ read
all_read q input read e r = pure q.left q.left_after e r.consumed r.ended
  where
    pure : (a b : Option (List ℕ)) → a ≡ Some input → Consumes a b read → IsAtEnd b → input ≡ read
    pure None b e p o = cc
    pure (Some x) None e p o = absurd p
    pure (Some x) (Some y) e p o =
        let same : x ≡ input = cc in
        sym same ∙ p ∙ ap (λ l. read ++ l) o ∙ append-nil read

-- no more was read than there was
part_read : (q : SourceEnds) (input read : List ℕ) → q.left ≡ Some input → Consumes q.left q.left_after read → length read ≤ length input
part_read q input read e p = pure q.left q.left_after e p
  where
    pure : (a b : Option (List ℕ)) → a ≡ Some input → Consumes a b read → length read ≤ length input
    pure None b e p = cc
    pure (Some x) None e p = absurd p
    pure (Some x) (Some y) e p =
        let same : x ≡ input = cc in
        omega (arith, ap length (sym same ∙ p), length-append read y)

-- bytes that were read to the end are those of the source, so they are read as one thing alone
same_reading : (q : SourceEnds) (input read : List ℕ) (x y : Result Script ParseFault) → q.left ≡ Some input → ReadsAll q read
    → read_script input ≡ x → read_script read ≡ y → x ≡ y
same_reading q input read x y e r is_x is_y = sym is_x ∙ ap read_script (all_read q input read e r) ∙ is_y

no_fault : (q : SourceEnds) (input read : List ℕ) (s : Script) (f : ParseFault) → q.left ≡ Some input → ReadsAll q read
    → read_script input ≡ Ok s → read_script read ≡ Err f → ⊥
no_fault q input read s f e r ok err = let h : Ok s ≡ Err f = same_reading q input read (Ok s) (Err f) e r ok err in cc

no_script : (q : SourceEnds) (input read : List ℕ) (s : Script) (f : ParseFault) → q.left ≡ Some input → ReadsAll q read
    → read_script input ≡ Err f → read_script read ≡ Ok s → ⊥
no_script q input read s f e r err ok = let h : Err f ≡ Ok s = same_reading q input read (Err f) (Ok s) e r err ok in cc

same_fault : (q : SourceEnds) (input read : List ℕ) (f g : ParseFault) → q.left ≡ Some input → ReadsAll q read
    → read_script input ≡ Err f → read_script read ≡ Err g → g ≡ f
same_fault q input read f g e r is_f is_g =
    let h : Err f ≡ Err g = same_reading q input read (Err f) (Err g) e r is_f is_g in cc

too_short : (q : SourceEnds) (input : List ℕ) → q.left ≡ Some input → length input ≤ max_input → ReadsSome q (λ n. n ≡ max_input + 1) → ⊥
too_short q input e short r =
    let p = part_read q input r.input e r.consumed in
    let n : length r.input ≡ max_input + 1 = r.fits in
    omega arith

too_many : (q : SourceEnds) (input read : List ℕ) → q.left ≡ Some input → max_input < length input → ReadsAll q read → ⊥
too_many q input read e long r =
    let same = ap length (all_read q input read e r) in
    let short : length read ≤ max_input = r.short in
    omega arith

-- ---- tasks that read their script

record Reads (task : Task) (q : SourceEnds) : Type 0 where
  pub has : (script : Script) → HasScript task q script → IsRead q script
  pub stops : (status : Status) → Stops task q status → ReadsUntil q status

run_reads : (n : ℕ) (q : SourceEnds) → Reads (Run n) q
run_reads n q = record { has = λ script has. has; stops = λ status stops. stops }

check_reads : (q : SourceEnds) → Reads Check q
check_reads q = record { has = λ script has. has; stops = λ status stops. stops }

accepted : (task : Task) (q : SourceEnds) (s : SinkEnds) → Reads task q → (status : Status) → Ended task q s status
    → (input : List ℕ) (script : Script) → q.left ≡ Some input → length input ≤ max_input → read_script input ≡ Ok script
    → Calm q.faults q.faults_after → Calm s.faults s.faults_after → OrMemory Done status
accepted task q s reads Done h input script left short ok calm calm' = inl refl
accepted task q s reads Usage h input script left short ok calm calm' = absurd (reads.stops Usage h.stops)
accepted task q s reads (Refused line code) h input script left short ok calm calm' =
    let r = reads.stops (Refused line code) h.stops in absurd (no_fault q input r.input script _ left r.read ok r.is_fault)
accepted task q s reads ReadFault h input script left short ok calm calm' = let r = reads.stops ReadFault h.stops in absurd (calm r.cause)
accepted task q s reads WriteFault h input script left short ok calm calm' = absurd (calm' h.wrote.cause)
accepted task q s reads Memory h input script left short ok calm calm' = inr refl
accepted task q s reads TooLong h input script left short ok calm calm' = absurd (too_short q input left short (reads.stops TooLong h.stops))

no_refusal : (task : Task) (q : SourceEnds) → Reads task q → (text : List ℕ) → Output task q text
    → (input : List ℕ) (fault : ParseFault) → q.left ≡ Some input → read_script input ≡ Err fault → ⊥
no_refusal task q reads text output input fault left err =
    let r = reads.has output.script output.has in no_script q input r.input output.script fault left r.read err r.is_script

refused : (task : Task) (q : SourceEnds) (s : SinkEnds) → Reads task q → (status : Status) → Ended task q s status
    → (input : List ℕ) (fault : ParseFault) → q.left ≡ Some input → length input ≤ max_input → read_script input ≡ Err fault
    → Calm q.faults q.faults_after → OrMemory (Refused fault.line fault.code) status
refused task q s reads Done h input fault left short err calm = absurd (no_refusal task q reads h.text h.output input fault left err)
refused task q s reads Usage h input fault left short err calm = absurd (reads.stops Usage h.stops)
refused task q s reads (Refused line code) h input fault left short err calm =
    let r = reads.stops (Refused line code) h.stops in
    let same = same_fault q input r.input fault (record { line = line; code = code }) left r.read err r.is_fault in
    inl (ap (λ (f : ParseFault). Refused f.line f.code) same)
refused task q s reads ReadFault h input fault left short err calm = let r = reads.stops ReadFault h.stops in absurd (calm r.cause)
refused task q s reads WriteFault h input fault left short err calm = absurd (no_refusal task q reads h.text h.output input fault left err)
refused task q s reads Memory h input fault left short err calm = inr refl
refused task q s reads TooLong h input fault left short err calm = absurd (too_short q input left short (reads.stops TooLong h.stops))

no_output : (task : Task) (q : SourceEnds) → Reads task q → (text : List ℕ) → Output task q text
    → (input : List ℕ) → q.left ≡ Some input → max_input < length input → ⊥
no_output task q reads text output input left long =
    let r = reads.has output.script output.has in too_many q input r.input left long r.read

too_long : (task : Task) (q : SourceEnds) (s : SinkEnds) → Reads task q → (status : Status) → Ended task q s status
    → (input : List ℕ) → q.left ≡ Some input → max_input < length input → Calm q.faults q.faults_after → OrMemory TooLong status
too_long task q s reads Done h input left long calm = absurd (no_output task q reads h.text h.output input left long)
too_long task q s reads Usage h input left long calm = absurd (reads.stops Usage h.stops)
too_long task q s reads (Refused line code) h input left long calm =
    let r = reads.stops (Refused line code) h.stops in absurd (too_many q input r.input left long r.read)
too_long task q s reads ReadFault h input left long calm = let r = reads.stops ReadFault h.stops in absurd (calm r.cause)
too_long task q s reads WriteFault h input left long calm = absurd (no_output task q reads h.text h.output input left long)
too_long task q s reads Memory h input left long calm = inr refl
too_long task q s reads TooLong h input left long calm = inl refl

reading_completes : (task : Task) (q : SourceEnds) (s : SinkEnds) (status : Status) → Reads task q → Ended task q s status → ReadingCompletes q s status
reading_completes task q s status reads h = record {
  accepted = accepted task q s reads status h;
  refused = refused task q s reads status h;
  too_long = too_long task q s reads status h;
}

-- ---- each task

generated_completes : (n : ℕ) (q : SourceEnds) (s : SinkEnds) (status : Status) → Ended (Gen n) q s status → Calm s.faults s.faults_after → OrMemory Done status
generated_completes n q s Done h calm = inl refl
generated_completes n q s Usage h calm = absurd h.stops
generated_completes n q s (Refused line code) h calm = absurd h.stops
generated_completes n q s ReadFault h calm = absurd h.stops
generated_completes n q s WriteFault h calm = absurd (calm h.wrote.cause)
generated_completes n q s Memory h calm = inr refl
generated_completes n q s TooLong h calm = absurd h.stops

pub is_complete : (task : Task) (q : SourceEnds) (s : SinkEnds) (status : Status) → Ended task q s status → Completes task q s status
is_complete (Run n) q s status h = reading_completes (Run n) q s status (run_reads n q) h
is_complete Check q s status h = reading_completes Check q s status (check_reads q) h
is_complete (Gen n) q s status h = generated_completes n q s status h
