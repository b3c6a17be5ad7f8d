use Rattle.generator.proofs.Numbers.{all_made}
use Rattle.generator.proofs.scripts.gen_script.Goals as goal

pub returns : goal.returns
returns c = all_made c.args.number c.in_ok-cells.cells c.in_ok-parts.parts c.in_ok-cells.ensures c.in_ok-parts.ensures
