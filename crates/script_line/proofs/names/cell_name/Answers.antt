use Rattle.std.proofs.Common.{◌≡◌, true, refl, sym, ◌∙◌}
use Rattle.script_line.specs.Names.{is_capital, is_name}
use Rattle.script_line.proofs.NameLemmas.{is_text-cell_name}
use Rattle.script_line.proofs.names.cell_name.Goals as goal

pub returns : goal.returns
returns c =
    let is : is_name is_capital c.args.word.now ≡ true = sym c.is_cell_name.ensures ∙ c.if-not-is_cell_name.false in
    rw (c.ok_or.ensures.value, c.text_of.ensures, is_text-cell_name c.args.word.now is, is) refl
