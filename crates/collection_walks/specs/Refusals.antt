-- Why a call on a walk is refused, as a run tells it.
use Rattle.std.specs.Prelude.{Option, Some, None}
use Rattle.plain_model.specs.declared.history.Refusal.{Refusal}
use Rattle.plain_model.specs.declared.history.Refusal.TheVariants as refusals
use Rattle.enumerators.specs.declared.walk.WalkFault.{WalkFault}
use Rattle.enumerators.specs.declared.walk.WalkFault.TheVariants as faults

-- each fault that a run tells of: the others are of pools of several threads, and of a pool that has
-- made all its takings
abbrev pub refusal_in : WalkFault → Option Refusal
refusal_in faults.Disposed = Some refusals.Disposed
refusal_in (faults.Changed made now) = Some (refusals.Changed made now)
refusal_in faults.NoCurrent = Some refusals.NoCurrent
refusal_in faults.PoolFull = Some refusals.PoolFull
refusal_in (faults.Busy number) = None
refusal_in faults.NoNumber = None
