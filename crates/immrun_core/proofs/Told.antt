-- What the sink of faults is told.
use Rattle.std.proofs.Common.{◌≡◌, Ok, Err, inl, inr, refl}
use Rattle.std.specs.Prelude.{Result}
use Rattle.imm_base.specs.declared.outside.Failed.{Failed}
use Rattle.immrun_core.specs.declared.status.Status.{Status}
use Rattle.immrun_core.specs.declared.status.Status.TheVariants.{Done, Usage, Refused, ReadFault, WriteFault, Memory, TooLong}
use Rattle.immrun_core.specs.Outside.{SinkEnds, WriteEnd}
use Rattle.immrun_core.specs.Status.{fault_line}
use Rattle.immrun_core.specs.Top.{Told}

pub line_told : (f : SinkEnds) (status : Status) (r : Result (Unit {0}) Failed) → (status ≡ Done → ⊥) → WriteEnd f (fault_line status) r → Told f status
line_told f Done r other w = absurd (other refl)
line_told f Usage (Ok v) other w = inl w
line_told f Usage (Err e) other w = inr w
line_told f (Refused line code) (Ok v) other w = inl w
line_told f (Refused line code) (Err e) other w = inr w
line_told f ReadFault (Ok v) other w = inl w
line_told f ReadFault (Err e) other w = inr w
line_told f WriteFault (Ok v) other w = inl w
line_told f WriteFault (Err e) other w = inr w
line_told f Memory (Ok v) other w = inl w
line_told f Memory (Err e) other w = inr w
line_told f TooLong (Ok v) other w = inl w
line_told f TooLong (Err e) other w = inr w
