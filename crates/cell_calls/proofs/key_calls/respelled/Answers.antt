use Rattle.cell_calls.proofs.Pairs.{gives_other, sets_other, gives_back, set_back}
use Rattle.cell_calls.proofs.key_calls.respelled.Goals as goal

pub set_pair-requires : goal.set_pair-requires
set_pair-requires c = let a = c.args in gives_other _ _ (sets_other a.old.now a.key.now a.value.now c.unlike-between.result c.requires c.unlike-between.ensures)

pub set_pair-requires-2 : goal.set_pair-requires-2
set_pair-requires-2 c = let a = c.args in gives_back a.old.now a.key.now a.value.now c.unlike-between.result c.requires c.unlike-between.ensures c.in_ok-other.other c.in_ok-other.ensures

pub returns : goal.returns
returns c = let a = c.args in set_back a.old.now a.key.now a.value.now c.unlike-between.result c.requires c.unlike-between.ensures c.in_ok-other.other c.in_ok-other.ensures c.in_ok-back.back c.in_ok-back.ensures
