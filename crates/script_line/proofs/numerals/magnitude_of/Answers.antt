use Rattle.std.proofs.Common.{◌≡◌, true, sym, ◌∙◌}
use Rattle.script_line.specs.Numerals.{is_numeral}
use Rattle.script_line.proofs.Digits.{IsUtf8-numeral, parsed}
use Rattle.script_line.proofs.numerals.magnitude_of.Goals as goal

pub returns-in-Ok : goal.returns-in-Ok
returns-in-Ok c =
    let is : is_numeral c.args.word.now ≡ true = sym c.is_numeral.ensures ∙ c.if-not-is_numeral.false in
    let read = rw c.in-Ok.ensures.cases.0 at c.parse.ensures.value.0 in
    c.ok.ensures.value ∙ parsed 64 c.args.word.now c.parse.result read is

pub returns-in-Err : goal.returns-in-Err
returns-in-Err c =
    let is : is_numeral c.args.word.now ≡ true = sym c.is_numeral.ensures ∙ c.if-not-is_numeral.false in
    absurd (c.in-Err.ensures.cases.0 (IsUtf8-numeral c.args.word.now is))
