use Rattle.std.proofs.Common.{◌≡◌, [], ap, length, ◌∙◌, arith}
use Rattle.interlocked.specs.declared.entry.Kept.{Kept}
use Rattle.seats.proofs.NewPasses.{new_passes_long}
use Rattle.seats.proofs.ends.open_cell.Goals as goal

pub wrap-requires : goal.wrap-requires
wrap-requires c =
    let first : Kept = record { value = c.args.first; entries = [] } in
    let many = ap length c.in_ok-cell.ensures.passes ∙ new_passes_long c.in_ok-cell.cell.table c.args.workers first in
    let room = c.in_ok-room.ensures in (room.items, omega arith)
