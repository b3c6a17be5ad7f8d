use Rattle.std.proofs.Common.{◌∙◌, map, sym}
use Rattle.plain_model.specs.Frozen.{tells_apart, text_bytes}
use Rattle.frozen_sets.proofs.Slices.{row_with, row_without}
use Rattle.frozen_sets.proofs.choice.slice_of.Goals as goal

pub returns-in-Some : goal.returns-in-Some
returns-in-Some c =
    sym (row_with (tells_apart (map text_bytes c.args.keys.now)) c.least_length-least.result c.loop-len.len c.in-Some.start c.loop-len-test.true (sym c.in_ok-start.ensures ∙ c.in-Some.is)) ∙ c.loop-len.invariant

pub loop-len-preserved : goal.loop-len-preserved
loop-len-preserved c =
    sym (row_without (tells_apart (map text_bytes c.args.keys.now)) c.least_length-least.result c.loop-len.len c.loop-len-test.true (sym c.in_ok-start.ensures ∙ c.in_default.is)) ∙ c.loop-len.invariant
