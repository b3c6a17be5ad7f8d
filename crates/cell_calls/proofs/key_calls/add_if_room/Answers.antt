use Rattle.std.proofs.Common.{sym, ◌∙◌}
use Rattle.cell_calls.proofs.Pairs.{gives_other, sets_new, added}
use Rattle.cell_calls.proofs.key_calls.add_if_room.Goals as goal

pub set_pair-requires : goal.set_pair-requires
set_pair-requires c = let a = c.args in gives_other _ _ (sets_new a.old.now a.key.now a.value.now c.requires (sym c.is_full.ensures ∙ c.if-is_full.false))

pub returns : goal.returns
returns c = let a = c.args in c.installed.ensures ∙ added a.key.now a.value.now a.reply a.old.now c.in_ok-other.other c.requires (sym c.is_full.ensures ∙ c.if-is_full.false) c.in_ok-other.ensures
