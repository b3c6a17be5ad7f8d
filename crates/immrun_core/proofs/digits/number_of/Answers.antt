use Rattle.std.proofs.Common.{◌≡◌, ◌∙◌, ap, sym, subst, arith, ℕ, ◌<◌, ◌^◌, List, Ok, Result}
use Rattle.std.specs.Fmt.{decimal}
use Rattle.std.specs.Str.{IsUtf8}
use Rattle.std.specs.Str.Parse.{ParsesUnsigned}
use Rattle.std.proofs.lemmas.Fmt.{IsAscii-decimal, parse-decimal}
use Rattle.std.proofs.lemmas.Str.{IsUtf8-from_ascii}
use Rattle.std.proofs.lemmas.Slice.Eq.{bytes_eq-Decides}
use Rattle.immrun_core.proofs.digits.number_of.Goals as goal

-- what is written is read again
read_again : {E : Type 0} (n : ℕ) (bytes text : List ℕ) (r : Result ℕ E) → n < 2 ^ 32 → text ≡ bytes → bytes ≡ decimal n → ParsesUnsigned 32 10 text r → r ≡ Ok n
read_again n bytes text r low same is parses = parse-decimal 32 n text r low (omega arith) (same ∙ is) parses

pub returns-in_default-clause-other : goal.returns-in_default-clause-other
returns-in_default-clause-other c none n low is =
    c.in_default.ensures.cases.0 (subst IsUtf8 (sym is) (IsUtf8-from_ascii (decimal n) (IsAscii-decimal n (omega arith))))

pub returns-in_default-parse-clause-other : goal.returns-in_default-parse-clause-other
returns-in_default-parse-clause-other c none n low is =
    let read = read_again n c.args.bytes.now c.in-Ok.text.now c.parse.result low c.in-Ok.ensures.cases.0 is c.parse.ensures.value.0 in
    let err = c.in_default-parse.is in
    absurd cc

pub returns-else-eq-clause-other : goal.returns-else-eq-clause-other
returns-else-eq-clause-other c none n low is =
    let read = read_again n c.args.bytes.now c.in-Ok.text.now c.parse.result low c.in-Ok.ensures.cases.0 is c.parse.ensures.value.0 in
    let ok = c.in-Ok-parse.is in
    let same : c.in-Ok-parse.number ≡ n = cc in
    let digits = c.digits_from.ensures ∙ c.write_digits-start.ensures.written ∙ ap decimal same ∙ sym is in
    let equal = (bytes_eq-Decides c.digits_from.result.now c.args.bytes.now).1 digits in
    let tested = c.eq.ensures in
    let differ = c.if-eq.false in
    absurd cc
