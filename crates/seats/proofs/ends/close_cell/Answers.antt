use Rattle.std.proofs.Common.{sym, subst, map, List}
use Rattle.version_slots.specs.Cells.{AreAll}
use Rattle.interlocked.specs.Known.{Known}
use Rattle.seats.proofs.ends.close_cell.Goals as goal

pub close-requires-clause-all : goal.close-requires-clause-all
close-requires-clause-all c = subst (λ (ps : List Known). AreAll c.args.cell.passes (map (λ (p : Known). p.view) ps)) (sym c.in_ok-passes.ensures) c.requires.all
