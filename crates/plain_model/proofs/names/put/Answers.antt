use Rattle.std.proofs.Common.{sym, ◌∙◌}
use Rattle.plain_model.proofs.Bindings.{put_behind}
use Rattle.plain_model.proofs.names.put.Goals as goal

pub returns-in_ok-push-in-None-clause-ok : goal.returns-in_ok-push-in-None-clause-ok
returns-in_ok-push-in-None-clause-ok g c =
    let behind = put_behind c.args.name c.args.value c.as_slice.result.now (sym c.in-None.ensures) in
    c.in_ok-push-in-None.ensures.ok ∙ (rw c.as_slice.ensures.value at behind)
