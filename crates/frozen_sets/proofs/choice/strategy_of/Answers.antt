use Rattle.std.proofs.Common.{◌∙◌, ◌≡◌, ◌||◌, false, not, length, arith, sym}
use Rattle.std.specs.Prelude.{nat_le}
use Rattle.std.specs.List.{list_any}
use Rattle.plain_model.specs.Frozen.{is_integer, is_ordinal}
use Rattle.frozen_sets.proofs.Slices.{by_length, by_slice, lengths_apart}
use Rattle.frozen_sets.proofs.choice.strategy_of.Goals as goal

pub returns-then-branch : goal.returns-then-branch
returns-then-branch c =
    let keys = c.args.keys.now in
    let many : nat_le (length keys) 4 ≡ false = grind arith in
    let texts : (list_any is_integer keys || not (is_ordinal c.args.eq)) ≡ false = sym c.are_hashed.ensures ∙ c.if-are_hashed.false in
    sym (by_length keys c.args.eq many texts (sym (lengths_apart keys) ∙ sym c.in_ok-are_apart.ensures ∙ c.if-branch.true))

pub returns-in-Some : goal.returns-in-Some
returns-in-Some c =
    let keys = c.args.keys.now in
    let many : nat_le (length keys) 4 ≡ false = grind arith in
    let texts : (list_any is_integer keys || not (is_ordinal c.args.eq)) ≡ false = sym c.are_hashed.ensures ∙ c.if-are_hashed.false in
    sym (by_slice keys c.args.eq many texts _ (sym (lengths_apart keys) ∙ sym c.in_ok-are_apart.ensures ∙ c.if-branch.false) (sym c.in_ok-start.ensures ∙ c.in-Some.is))

pub returns-in-None : goal.returns-in-None
returns-in-None c =
    let keys = c.args.keys.now in
    let many : nat_le (length keys) 4 ≡ false = grind arith in
    let texts : (list_any is_integer keys || not (is_ordinal c.args.eq)) ≡ false = sym c.are_hashed.ensures ∙ c.if-are_hashed.false in
    sym (by_slice keys c.args.eq many texts _ (sym (lengths_apart keys) ∙ sym c.in_ok-are_apart.ensures ∙ c.if-branch.false) (sym c.in_ok-start.ensures ∙ c.in-None.is))
