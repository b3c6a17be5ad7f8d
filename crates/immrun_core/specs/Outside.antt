-- What a call read and wrote, whether or not the source and the sinks tell their bytes.
use Rattle.std.specs.Prelude.{◌≡◌, ℕ, ◌+◌, ◌<◌, ◌≤◌, List, length, take, Option, Result, Ok, Err, Vec}
use Rattle.std.specs.Io.KnownBytes.{Consumes, Appends, IsAtEnd}
use Rattle.imm_base.specs.Causes.{Rose}
use Rattle.imm_base.specs.declared.outside.Failed.{Failed}
use Rattle.immrun_core.specs.declared.streams.ReadStop.{ReadStop}
use Rattle.immrun_core.specs.declared.streams.ReadStop.TheVariants.{Fault, TooLong, Memory}

-- the most bytes of a script
abbrev pub max_input : ℕ
max_input = 1048576

-- a source before and after a call: the bytes left, where it tells them, and its count of faults
pub record SourceEnds : Type 0 where
  pub left : Option (List ℕ)
  pub left_after : Option (List ℕ)
  pub faults : ℕ
  pub faults_after : ℕ

abbrev pub source_ends : {Q : Type 0} → (Q → Option (List ℕ)) → (Q → ℕ) → Q → Q → SourceEnds
source_ends left faults old new = record { left = left old; left_after = left new; faults = faults old; faults_after = faults new }

-- a sink before and after a call: the bytes taken, where it tells them, and its count of faults
pub record SinkEnds : Type 0 where
  pub taken : Option (List ℕ)
  pub taken_after : Option (List ℕ)
  pub faults : ℕ
  pub faults_after : ℕ

abbrev pub sink_ends : {S : Type 0} → (S → Option (List ℕ)) → (S → ℕ) → S → S → SinkEnds
sink_ends taken faults old new = record { taken = taken old; taken_after = taken new; faults = faults old; faults_after = faults new }

-- ---- the source

-- nothing was read
pub record Unread (q : SourceEnds) : Type 0 where
  pub left : q.left_after ≡ q.left
  pub faults : q.faults_after ≡ q.faults

-- these bytes were read, which are short enough for a script, and nothing is left
pub record ReadsAll (q : SourceEnds) (input : List ℕ) : Type 0 where
  pub consumed : Consumes q.left q.left_after input
  pub ended : IsAtEnd q.left_after
  pub short : length input ≤ max_input

-- some bytes were read, as many as IsCount says
pub record ReadsSome (q : SourceEnds) (IsCount : ℕ → Type 0) : Type 0 where
  pub input : List ℕ
  pub consumed : Consumes q.left q.left_after input
  pub fits : IsCount (length input)

-- the source failed before it gave more bytes than a script may have
pub record ReadFails (q : SourceEnds) : Type 0 where
  pub cause : Rose q.faults q.faults_after
  pub read : ReadsSome q (λ n. n ≤ max_input)

-- how the reading of a source ended
abbrev pub ReadEnd : {Z : Type 0} → SourceEnds → Result (Vec ℕ Z) ReadStop → Type 0
ReadEnd q (Ok v) = ReadsAll q v.items
ReadEnd q (Err Fault) = ReadFails q
ReadEnd q (Err TooLong) = ReadsSome q (λ n. n ≡ max_input + 1)
ReadEnd q (Err Memory) = ReadsSome q (λ n. n ≤ max_input + 1)

-- ---- a sink

-- nothing was written
pub record Unwritten (s : SinkEnds) : Type 0 where
  pub taken : s.taken_after ≡ s.taken
  pub faults : s.faults_after ≡ s.faults

-- the whole text was taken
abbrev pub WritesAll : SinkEnds → List ℕ → Type 0
WritesAll s text = Appends s.taken s.taken_after text

-- the sink failed, and less than the whole text was taken, from its front
pub record WriteFails (s : SinkEnds) (text : List ℕ) : Type 0 where
  pub cause : Rose s.faults s.faults_after
  pub size : ℕ
  pub part : size < length text
  pub taken : Appends s.taken s.taken_after (take size text)

-- how the writing of a text ended
abbrev pub WriteEnd : SinkEnds → List ℕ → Result (Unit {0}) Failed → Type 0
WriteEnd s text (Ok v) = WritesAll s text
WriteEnd s text (Err e) = WriteFails s text
