use Rattle.std.proofs.Common.{[], ◌∷◌, ◌++◌, ◌∙◌, subst}
use Rattle.interlocked.specs.Called.{IsDone}
use Rattle.interlocked.specs.Known.{Known}
use Rattle.cell_calls.specs.Calls.{plain_call}
use Rattle.seats.specs.Steps.{stamped_line}
use Rattle.seats.proofs.places.note_call.Goals as goal

pub returns : goal.returns
returns g c =
    let o = c.args.ordinal in
    let reply = c.in_ok-reply.reply in
    let stamp = c.in_ok-reply.stamp in
    record {
      reply = reply;
      stamp = stamp;
      done = subst (λ (p : Known). IsDone p o (plain_call c.args.call) c.call.new.pass reply stamp) c.pass.view_is c.in_ok-reply.ensures.done;
      grown = c.in_ok-push_line.ensures ∙ (λ i. c.args.log.now ++ stamped_line (c.number-caller.ensures i) o (c.in_ok-call.ensures i) reply stamp ∷ []);
    }
