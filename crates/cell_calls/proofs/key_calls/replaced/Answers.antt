use Rattle.std.proofs.Common.{sym, ◌∙◌}
use Rattle.cell_calls.proofs.Pairs.{found_equal, gives_other, sets_other, set_other}
use Rattle.cell_calls.proofs.key_calls.replaced.Goals as goal

pub respelled-requires : goal.respelled-requires
respelled-requires c = let a = c.args in found_equal a.old.now a.key.now a.found.now a.value.now c.requires (sym c.eq.ensures ∙ c.if-eq.true)

pub set_pair-requires : goal.set_pair-requires
set_pair-requires c = let a = c.args in gives_other _ _ (sets_other a.old.now a.key.now a.found.now a.value.now c.requires (sym c.eq.ensures ∙ c.if-eq.false))

pub returns : goal.returns
returns c = let a = c.args in set_other a.old.now a.key.now a.found.now a.value.now c.in_ok-other.other c.requires (sym c.eq.ensures ∙ c.if-eq.false) c.in_ok-other.ensures
