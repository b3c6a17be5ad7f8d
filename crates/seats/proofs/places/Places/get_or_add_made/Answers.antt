use Rattle.std.proofs.Common.{◌≡◌, true, None, ap, sym, subst, ◌∙◌, arith}
use Rattle.plain_model.specs.declared.commands.PlainCall.TheVariants as calls
use Rattle.plain_model.specs.declared.plain.Kind.{Kind}
use Rattle.plain_model.specs.Cell.{is_map}
use Rattle.plain_model.specs.Plain.{shape_of}
use Rattle.interlocked.specs.Known.{Known}
use Rattle.seats.specs.Steps.{seated}
use Rattle.seats.proofs.Steps.{step, place_within, there_is}
use Rattle.seats.proofs.places.Places.get_or_add_made.Goals as goal

pub index_mut-pass-requires : goal.index_mut-pass-requires
index_mut-pass-requires g c =
    let passes = c.args.self.now.passes in
    let within = place_within (λ (p : Known). p.kind) passes.items c.args.place c.requires.keys.kind c.requires.keys.at in
    let count = passes.ok.0 in
    omega arith

pub make_one-requires-clause-map : goal.make_one-requires-clause-map
make_one-requires-clause-map g c =
    let keys = c.requires.keys in
    subst (λ (k : Kind). is_map (shape_of k) ≡ true)
    (there_is (λ (p : Known). p.kind) c.args.self.now.passes.items c.args.place keys.kind c.index_mut-pass.result.now keys.at ∙ ap (λ (p : Known). p.kind) (sym c.index_mut-pass.ensures.value)) keys.map

pub returns : goal.returns
returns g c =
    let s = seated c.args.cells.now c.args.self.now in
    let keys = c.requires.keys in
    let within = place_within (λ (p : Known). p.kind) s.passes c.args.place keys.kind keys.at in
    step s c.args.place c.args.ordinal (calls.GetOrAddMade c.args.key c.args.make c.in_ok-probe.probe) None c.index_mut-pass.result.now c.make_one.new.pass c.index_mut-log.result.now c.make_one.new.log c.requires.ready
    (let e = c.requires.ready.passes in omega arith) c.index_mut-pass.ensures.value c.index_mut-log.ensures.value c.in_ok-probe.ensures
