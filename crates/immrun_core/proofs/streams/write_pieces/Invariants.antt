use Rattle.std.proofs.Common.{take}
use Rattle.std.specs.Prelude.{flat_map}
use Rattle.immrun_core.specs.Outside.{sink_ends}
use Rattle.immrun_core.proofs.StreamSteps.{Written}
use Rattle.immrun_core.proofs.streams.write_pieces.Given as goal

abbrev pub invariant-loop-piece : goal.invariant-loop-piece
invariant-loop-piece g l =
    Written (sink_ends g.S.Sink.taken g.S.Sink.faults l.fn.sink l.sink) (flat_map (λ p. p.now) (take l.piece-index l.pieces))
