use Rattle.immrun_core.proofs.StreamSteps.{piece_within, cut_off, failed_end}
use Rattle.immrun_core.proofs.streams.write_pieces.Goals as goal

pub returns-in_err-write_all-clause-write : goal.returns-in_err-write_all-clause-write
returns-in_err-write_all-clause-write g c =
    failed_end _ _ c.from_residual.result c.from_residual.ensures.0
    (cut_off _ _ _ _ _ _ _ _ _ _ c.loop-piece.invariant c.in_err-write_all.ensures.write
    (piece_within (λ p. p.now) c.args.pieces.now c.loop-piece.piece-index _ c.loop-piece-test.true))
