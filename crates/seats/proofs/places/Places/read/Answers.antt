use Rattle.std.proofs.Common.{Some, ap, sym, ◌∙◌, arith}
use Rattle.plain_model.specs.declared.commands.PlainCall.TheVariants as calls
use Rattle.plain_model.specs.declared.plain.Kind.{Kind}
use Rattle.interlocked.specs.Known.{Known}
use Rattle.seats.specs.Steps.{seated}
use Rattle.seats.proofs.Steps.{step, there}
use Rattle.seats.proofs.places.Places.read.Goals as goal

pub returns-clause-kind : goal.returns-clause-kind
returns-clause-kind g c =
    there (λ (p : Known). p.kind) c.args.self.now.passes.items c.args.place c.index_mut-pass.result.now c.requires.place
    ∙ (ap (λ (p : Known). Some p.kind) (sym c.index_mut-pass.ensures.value) ∙ ap (λ (k : Kind). Some k) (sym c.in_ok-value.ensures.kind))

pub returns-clause-called : goal.returns-clause-called
returns-clause-called g c =
    let s = seated c.args.cells.now c.args.self.now in
    step s c.args.place c.args.ordinal calls.Read (Some c.in_ok-value.value) c.index_mut-pass.result.now c.read_one.new.pass c.index_mut-log.result.now c.read_one.new.log c.requires.ready
    (let e = c.requires.ready.passes in let h = c.requires.place in omega arith) c.index_mut-pass.ensures.value c.index_mut-log.ensures.value c.in_ok-value.ensures.called
