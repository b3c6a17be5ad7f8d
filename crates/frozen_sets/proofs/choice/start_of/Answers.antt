use Rattle.std.proofs.Common.{◌∙◌, ◌≡◌, ℕ, Bool, true, false, map, sym}
use Rattle.plain_model.specs.Frozen.{tells_apart, text_bytes}
use Rattle.frozen_sets.proofs.Slices.{find_here, find_next, pieces_apart}
use Rattle.frozen_sets.proofs.choice.start_of.Goals as goal

pub returns-then-branch : goal.returns-then-branch
returns-then-branch c =
    let p : ℕ → Bool = λ i. tells_apart (map text_bytes c.args.keys.now) (i, c.args.len) in
    let apart : p c.loop-start.start ≡ true = sym (pieces_apart c.loop-start.start c.args.len c.args.keys.now) ∙ sym c.in_ok-are_apart.ensures ∙ c.if-branch.true in
    sym (find_here p c.loop-start.start c.args.count c.loop-start-test.true apart) ∙ c.loop-start.invariant

pub loop-start-preserved : goal.loop-start-preserved
loop-start-preserved c =
    let p : ℕ → Bool = λ i. tells_apart (map text_bytes c.args.keys.now) (i, c.args.len) in
    let alike : p c.loop-start.start ≡ false = sym (pieces_apart c.loop-start.start c.args.len c.args.keys.now) ∙ sym c.in_ok-are_apart.ensures ∙ c.if-branch.false in
    sym (find_next p c.loop-start.start c.args.count c.loop-start-test.true alike) ∙ c.loop-start.invariant
