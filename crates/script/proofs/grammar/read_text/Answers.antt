use Rattle.std.proofs.Common.{◌≡◌, ◌<◌, ◌+◌, length, sym, ◌∙◌, arith}
use Rattle.std.proofs.lemmas.Bool.{eqb-true, eqb-false}
use Rattle.script.specs.Grammar.{read_script}
use Rattle.script.proofs.LineByLine.{reading-fails, reading-goes, reading-ends, lines_again}
use Rattle.script.proofs.grammar.read_text.Goals as goal

pub returns-in-Err : goal.returns-in-Err
returns-in-Err c =
    let step = rw c.in-Err.is at c.in_ok-code.ensures in
    rw c.rank.ensures (sym (reading-fails c.loop-parser.parser c.loop-parser.number c.loop-parser.rest.now c.first_line.result.0.now c.first_line.result.1.now c.is_empty-is_last.result c.in-Err.code (read_script c.args.bytes.now) c.first_line.ensures.split c.is_empty-is_last.ensures step c.loop-parser.invariant.so_far))

pub returns-then-is_last : goal.returns-then-is_last
returns-then-is_last c =
    let step = rw c.in-Ok.is at c.in_ok-code.ensures in
    let goes = reading-goes c.loop-parser.parser c.read_line.new.self c.loop-parser.number c.loop-parser.rest.now c.first_line.result.0.now c.first_line.result.1.now c.is_empty-is_last.result (read_script c.args.bytes.now) c.first_line.ensures.split c.is_empty-is_last.ensures step c.loop-parser.invariant.so_far in
    let end : length c.first_line.result.1.now ≡ 0 = eqb-true (length c.first_line.result.1.now) 0 (sym c.is_empty-is_last.ensures ∙ c.if-is_last.true) in
    rw c.into_script.ensures (sym (reading-ends c.read_line.new.self (c.loop-parser.number + 1) c.first_line.result.1.now (read_script c.args.bytes.now) end goes))

pub loop-parser-preserved : goal.loop-parser-preserved
loop-parser-preserved c =
    let step = rw c.in-Ok.is at c.in_ok-code.ensures in
    let goes = reading-goes c.loop-parser.parser c.read_line.new.self c.loop-parser.number c.loop-parser.rest.now c.first_line.result.0.now c.first_line.result.1.now c.is_empty-is_last.result (read_script c.args.bytes.now) c.first_line.ensures.split c.is_empty-is_last.ensures step c.loop-parser.invariant.so_far in
    let ne = eqb-false (length c.first_line.result.1.now) 0 (sym c.is_empty-is_last.ensures ∙ c.if-is_last.false) in
    let some : 0 < length c.first_line.result.1.now = omega (arith, ne) in
    let shorter : length c.first_line.result.1.now < length c.loop-parser.rest.now = c.first_line.ensures.shorter some in
    record { so_far = rw (← lines_again c.first_line.result.1.now some) goes; room = omega (arith, shorter, c.loop-parser.invariant.room) }
