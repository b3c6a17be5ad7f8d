use Rattle.plain_model.specs.Generator.{generated_command}
use Rattle.generator.proofs.Numbers.{pushed}
use Rattle.generator.proofs.scripts.commands.Goals as goal

pub loop-index-preserved : goal.loop-index-preserved
loop-index-preserved c =
    pushed (generated_command c.args.number c.args.part) c.loop-index.index c.loop-index.commands c.push.new.self c.command.result c.in_ok-push.ensures.ok c.loop-index.invariant c.command.ensures
