use Rattle.std.proofs.Common.{[], ◌∷◌, ◌++◌, ◌∙◌, subst}
use Rattle.interlocked.specs.Called.{IsRead}
use Rattle.interlocked.specs.Known.{Known}
use Rattle.plain_model.specs.declared.commands.PlainCall.TheVariants as calls
use Rattle.plain_model.specs.declared.history.Reply.TheVariants.{Count}
use Rattle.seats.specs.Steps.{stamped_line}
use Rattle.seats.proofs.Lines.{read_line}
use Rattle.seats.proofs.places.read_one.Goals as goal

pub returns-clause-called : goal.returns-clause-called
returns-clause-called g c =
    let o = c.args.ordinal in
    let stamp = c.in_ok-value.stamp in
    read_line c.args.pass.now c.read.new.pass o c.args.log.now c.push_line.new.log stamp c.in_ok-value.value.collection c.requires.above
    (subst (λ (p : Known). IsRead p c.in_ok-value.value.collection c.read.new.pass stamp) c.pass.view_is c.in_ok-value.ensures.read) c.count.ensures.set
    (c.in_ok-push_line.ensures ∙ (λ i. c.args.log.now ++ stamped_line (c.number-caller.ensures i) o calls.Read (Count (c.count.ensures.count i)) stamp ∷ []))
