use Rattle.immrun_core.proofs.Generated.{ready_where_made}
use Rattle.immrun_core.proofs.program.generate.Goals as goal

pub returns-clause-ready : goal.returns-clause-ready
returns-clause-ready c = ready_where_made c.args.number c.gen_script.result c.gen_script.ensures
