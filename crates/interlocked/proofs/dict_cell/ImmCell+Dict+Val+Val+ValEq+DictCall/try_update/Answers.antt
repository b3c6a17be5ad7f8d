use Rattle.interlocked.proofs.Updates.{tells_there}
use Rattle.interlocked.proofs.dict_cell.ImmCell+Dict+Val+Val+ValEq+DictCall.try_update.Goals as goal

pub returns-clause-tells : goal.returns-clause-tells
returns-clause-tells g c map = let a = c.args in
    tells_there a.pass.now c.call.new.pass a.ordinal a.key a.value a.comparison c.in_ok-done.done.0 c.in_ok-done.done.1 c.in_ok-done.ensures.done c.has_kind.ensures map
