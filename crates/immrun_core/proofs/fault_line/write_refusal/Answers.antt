use Rattle.std.proofs.Common.{◌≡◌, ◌∙◌, ap, subst, ℕ, List, [], ◌∷◌}
use Rattle.std.specs.Prelude.{codes, decimal}
use Rattle.std.specs.List.{concat}
use Rattle.immrun_core.specs.declared.status.Status.TheVariants.{Refused}
use Rattle.immrun_core.specs.Outside.{sink_ends, WriteEnd}
use Rattle.immrun_core.specs.Status.{fault_line, reason}
use Rattle.immrun_core.proofs.fault_line.write_refusal.Goals as goal

abbrev line_of : List ℕ → List ℕ → List ℕ → List ℕ
line_of line code why = concat (codes "refused line " ∷ line ∷ codes ": " ∷ code ∷ codes " " ∷ why ∷ codes "\n" ∷ [])

line_is : (line code : ℕ) (a b w : List ℕ) → a ≡ decimal line → b ≡ decimal code → w ≡ reason code → line_of a b w ≡ fault_line (Refused line code)
line_is line code a b w p q r =
    ap (λ x. line_of x b w) p ∙ ap (λ x. line_of (decimal line) x w) q ∙ ap (line_of (decimal line) (decimal code)) r

pub returns : goal.returns
returns g c =
    let w = c.write_pieces in
    let line = c.write_digits-line_start in
    let code = c.write_digits-code_start in
    subst (λ text. WriteEnd (sink_ends g.E.Sink.taken g.E.Sink.faults c.args.faults.now w.new.sink) text w.result)
    (line_is c.args.line c.args.code c.digits_from.result.now c.digits_from-2.result.now c.reason.result.now
    (c.digits_from.ensures ∙ line.ensures.written) (c.digits_from-2.ensures ∙ code.ensures.written ∙ ap decimal c.from.ensures) c.reason.ensures) w.ensures.write
