use Rattle.generator.proofs.Numbers.{part_pushed}
use Rattle.generator.proofs.scripts.parts.Goals as goal

pub loop-part-preserved : goal.loop-part-preserved
loop-part-preserved c =
    part_pushed c.args.number c.args.count c.loop-part.part c.loop-part.parts c.push.new.self c.in_ok-commands.commands c.in_ok-push.ensures.ok c.loop-part.invariant c.in_ok-commands.ensures
