use Rattle.std.proofs.Common.{◌≡◌, true, refl, sym, ◌∙◌}
use Rattle.script_line.specs.Names.{is_small, is_name}
use Rattle.script_line.proofs.NameLemmas.{is_text-local_name}
use Rattle.script_line.proofs.names.local_name.Goals as goal

pub returns : goal.returns
returns c =
    let is : is_name is_small c.args.word.now ≡ true = sym c.is_local_name.ensures ∙ c.if-not-is_local_name.false in
    rw (c.ok_or.ensures.value, c.text_of.ensures, is_text-local_name c.args.word.now is, is) refl
