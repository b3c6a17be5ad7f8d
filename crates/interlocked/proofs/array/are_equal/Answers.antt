use Rattle.std.proofs.Common.{◌∙◌}
use Rattle.interlocked.proofs.ArrayCalls.{same_elements}
use Rattle.interlocked.proofs.array.are_equal.Goals as goal

pub returns : goal.returns
returns c = c.eq.ensures ∙ same_elements c.args.elements.now c.args.others.now
