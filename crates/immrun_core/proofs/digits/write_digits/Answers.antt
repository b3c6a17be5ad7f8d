use Rattle.std.proofs.lemmas.Grind.{common_steps}
use Rattle.std.proofs.Common.{rules, ◌≡◌, ◌∙◌, ap, sym, arith, ℕ, ◌+◌, ◌-◌, ◌^◌, ◌<◌, ◌≤◌, ◌/◌, ◌%◌, List, [], ◌∷◌, ◌++◌, length, drop, slice_set, append_assoc, length-append}
use Rattle.std.specs.Fmt.{decimal}
use Rattle.std.proofs.lemmas.Fmt.{decimal_digit, decimal_step, decimal_nonempty, length-decimal-le}
use Rattle.std.proofs.lemmas.List.{drop-set, drop_all, append-nil}
use Rattle.immrun_core.proofs.digits.write_digits.Invariants.{Writing}
use Rattle.immrun_core.proofs.digits.write_digits.Goals as goal

-- a byte that is put before those from a place on
put_before : (start byte : ℕ) (bytes : List ℕ) → 0 < start → start ≤ length bytes → drop (start - 1) (slice_set bytes (start - 1) byte) ≡ byte ∷ drop start bytes
put_before start byte bytes some within =
    let next : start - 1 + 1 ≡ start = omega arith in
    drop-set bytes (start - 1) byte (omega arith) ∙ ap (λ k. byte ∷ drop k bytes) next

shorter : (n : ℕ) → 10 ≤ n → n < 2 ^ 64 → length (decimal n) ≡ length (decimal (n / 10)) + 1
shorter n many fits = ap length (decimal_step n many fits) ∙ length-append _ _

step : (number left start : ℕ) (bytes : List ℕ) → 10 ≤ left → left < 2 ^ 64 → Writing number left start bytes → Writing number (left / 10) (start - 1) (slice_set bytes (start - 1) (48 + left % 10))
step number left start bytes many fits w =
    let size = shorter left many fits in
    let room : length (decimal left) ≤ start = w.room in
    let within : start ≤ 10 = w.within in
    let whole : length bytes ≡ 10 = w.whole in
    let some : 0 < start = omega arith in
    record {
      room = omega arith;
      within = omega arith;
      whole = grind (arith, common_steps);
      text = ap (λ t. decimal (left / 10) ++ t) (put_before start (48 + left % 10) bytes some (omega arith))
          ∙ sym (append_assoc (decimal (left / 10)) ((48 + left % 10) ∷ []) (drop start bytes))
          ∙ ap (λ t. t ++ drop start bytes) (sym (decimal_step left many fits)) ∙ w.text;
    }

pub digits-init : goal.digits-init
digits-init c = record {
  room = length-decimal-le 10 c.args.number (omega arith) (omega arith) (omega arith);
  within = omega arith;
  whole = search rules;
  text = ap (λ t. decimal c.args.number ++ t) (drop_all 10 c.args.into.now (omega (arith, c.told-into))) ∙ append-nil (decimal c.args.number);
}

pub overflow_sub-start : goal.overflow_sub-start
overflow_sub-start c =
    let some = decimal_nonempty c.digits.left (omega arith) in
    let room : length (decimal c.digits.left) ≤ c.digits.start = c.digits.invariant.room in
    omega arith

pub digits-preserved : goal.digits-preserved
digits-preserved c = step _ c.digits.left c.digits.start c.digits.into c.digits-test.true (omega arith) c.digits.invariant

pub overflow_sub-start-2 : goal.overflow_sub-start-2
overflow_sub-start-2 c =
    let some = decimal_nonempty c.digits.left (omega arith) in
    let room : length (decimal c.digits.left) ≤ c.digits.start = c.digits.invariant.room in
    omega arith

pub returns-clause-written : goal.returns-clause-written
returns-clause-written c =
    let some = decimal_nonempty c.digits.left (omega arith) in
    let room : length (decimal c.digits.left) ≤ c.digits.start = c.digits.invariant.room in
    let within : c.digits.start ≤ 10 = c.digits.invariant.within in
    let whole : length c.digits.into ≡ 10 = c.digits.invariant.whole in
    put_before c.digits.start (48 + c.digits.left) c.digits.into (omega arith) (omega arith)
    ∙ ap (λ t. t ++ drop c.digits.start c.digits.into) (sym (decimal_digit c.digits.left c.digits-test.false)) ∙ c.digits.invariant.text
