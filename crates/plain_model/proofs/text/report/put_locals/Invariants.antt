use Rattle.std.proofs.Common.{◌≡◌, ◌++◌, take, string_bytes}
use Rattle.std.specs.List.{flat_map}
use Rattle.plain_model.specs.Text.{local_text}
use Rattle.plain_model.proofs.text.report.put_locals.Given as goal

abbrev pub invariant-loop-local : goal.invariant-loop-local
invariant-loop-local l = string_bytes l.text ≡ string_bytes l.fn.text ++ flat_map (local_text l.worker) (take l.local-index l.locals)
