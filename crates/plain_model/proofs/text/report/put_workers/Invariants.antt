use Rattle.std.proofs.Common.{◌≡◌, ◌++◌, take, string_bytes}
use Rattle.plain_model.specs.Text.{workers_text}
use Rattle.plain_model.proofs.text.report.put_workers.Given as goal

abbrev pub invariant-loop-locals : goal.invariant-loop-locals
invariant-loop-locals l = (l.worker ≡ l.locals-index) × (string_bytes l.text ≡ string_bytes l.fn.text ++ workers_text 1 (take l.locals-index l.workers))
