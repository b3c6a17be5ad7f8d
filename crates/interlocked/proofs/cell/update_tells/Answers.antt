use Rattle.interlocked.proofs.Updates.{update_tells}
use Rattle.interlocked.proofs.cell.update_tells.Goals as goal

pub returns : goal.returns
returns c p key value comparison map = update_tells p key value comparison map
