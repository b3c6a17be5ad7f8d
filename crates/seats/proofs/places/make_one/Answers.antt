use Rattle.std.proofs.Common.{[], ◌∷◌, ◌++◌, ◌∙◌, Some, None, ap, sym, subst, arith}
use Rattle.std.specs.Prelude.{Option}
use Rattle.imm_base.specs.declared.val.Val.{Val}
use Rattle.plain_model.specs.declared.commands.PlainCall.TheVariants as calls
use Rattle.plain_model.specs.declared.commands.Probe.TheVariants.{Idle}
use Rattle.plain_model.specs.declared.history.Reply.TheVariants.{Value}
use Rattle.interlocked.specs.Factories.{Looks}
use Rattle.seats.specs.Steps.{stamped_line}
use Rattle.seats.proofs.Lines.{idle_line, ran_line}
use Rattle.seats.proofs.places.make_one.Goals as goal

pub returns-in-Some : goal.returns-in-Some
returns-in-Some g c =
    let a = c.args in
    let p = a.pass.now in
    let q = c.look_up.new.pass in
    let stamp = c.in_ok-found.stamp in
    let value = c.in-Some.value in
    idle_line p q a.ordinal a.log.now c.push_line.new.log stamp a.key value a.make c.requires.above
    (subst (λ (o : Option Val). Looks p a.key o q stamp) c.in-Some.is c.in_ok-found.ensures)
    (c.in_ok-push_line.ensures ∙ ap (λ w. a.log.now ++ stamped_line w a.ordinal (calls.GetOrAddMade a.key a.make Idle) (Value value) stamp ∷ []) c.number-caller.ensures)

pub returns : goal.returns
returns g c =
    let a = c.args in
    let p = a.pass.now in
    let q = c.look_up.new.pass in
    let stamp = c.in_ok-found.stamp in
    ran_line p c.note_call.new.pass a.ordinal a.log.now c.note_call.new.log q stamp a.key a.make
    (subst (λ (o : Option Val). Looks p a.key o q stamp) c.in_default.is c.in_ok-found.ensures) c.in_ok-note_call.ensures
