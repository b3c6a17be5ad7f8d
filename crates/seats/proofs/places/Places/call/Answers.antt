use Rattle.std.proofs.Common.{None, ap, sym, subst, ◌∙◌, arith}
use Rattle.interlocked.specs.Known.{Known}
use Rattle.cell_calls.specs.Calls.{Suits, plain_call}
use Rattle.seats.specs.Steps.{seated}
use Rattle.seats.proofs.Steps.{step, place_within, there_is}
use Rattle.seats.proofs.places.Places.call.Goals as goal

pub index_mut-pass-requires : goal.index_mut-pass-requires
index_mut-pass-requires g c =
    let passes = c.args.self.now.passes in
    let within = place_within (λ (p : Known). p.kind) passes.items c.args.place c.requires.may.kind c.requires.may.at in
    let count = passes.ok.0 in
    omega arith

pub call_one-requires-clause-suits : goal.call_one-requires-clause-suits
call_one-requires-clause-suits g c =
    let may = c.requires.may in
    subst (Suits c.args.call) (there_is (λ (p : Known). p.kind) c.args.self.now.passes.items c.args.place may.kind c.index_mut-pass.result.now may.at ∙ ap (λ (p : Known). p.kind) (sym c.index_mut-pass.ensures.value)) may.suits

pub returns : goal.returns
returns g c =
    let s = seated c.args.cells.now c.args.self.now in
    let may = c.requires.may in
    let within = place_within (λ (p : Known). p.kind) s.passes c.args.place may.kind may.at in
    step s c.args.place c.args.ordinal (plain_call c.args.call) None c.index_mut-pass.result.now c.call_one.new.pass c.index_mut-log.result.now c.call_one.new.log c.requires.ready
    (let e = c.requires.ready.passes in omega arith) c.index_mut-pass.ensures.value c.index_mut-log.ensures.value c.in_ok-call_one.ensures
