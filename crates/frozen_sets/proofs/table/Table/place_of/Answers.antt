use Rattle.std.proofs.Common.{◌≡◌, ℕ, ◌<◌, length, get_or, arith, ap, sym, ◌∙◌, subst}
use Rattle.std.proofs.lemmas.List.{get_or_default}
use Rattle.imm_base.specs.Order.{eq_same}
use Rattle.frozen_sets.specs.Codes.{bucket_of}
use Rattle.frozen_sets.proofs.Links.{IsOnWay, way_first, way_next, way_on}
use Rattle.frozen_sets.proofs.table.Table.place_of.Goals as goal

pub loop-place-init : goal.loop-place-init
loop-place-init c =
    let bucket = bucket_of c.args.buckets.now in
    let same = eq_same c.args.buckets.now.eq c.args.key.now in
    let firsts = c.args.self.now.firsts.items in
    let b = c.bucket.result in
    let within : b < length firsts = omega (arith, c.bucket.ensures.within, c.requires.size) in
    let within' : bucket c.args.key.now < length firsts = subst (λ (k : ℕ). k < length firsts) c.bucket.ensures.bucket within in
    let read : get_or firsts (bucket c.args.key.now) 0 ≡ c.index.result.now =
    ap (λ (k : ℕ). get_or firsts k 0) (sym c.bucket.ensures.bucket) ∙ get_or_default firsts b 0 c.index.result.now within ∙ sym c.index.ensures in
    subst (λ (k : ℕ). IsOnWay bucket c.args.keys.now same (bucket c.args.key.now) k) read (way_first bucket c.args.keys.now same (bucket c.args.key.now) c.requires.alike firsts c.args.self.now.nexts.items c.requires.linked within')

pub loop-place-smaller : goal.loop-place-smaller
loop-place-smaller c =
    let bucket = bucket_of c.args.buckets.now in
    let nexts = c.args.self.now.nexts.items in
    let i = c.loop-place.place in
    let below : i < length nexts = omega (arith, c.loop-place-test.true, c.requires.linked.long) in
    let read : c.index-in-loop-place.result.now ≡ get_or nexts i 0 = c.index-in-loop-place.ensures ∙ get_or_default nexts i c.index-in-loop-place.result.now 0 below in
    let on : i < get_or nexts i 0 = way_on bucket c.args.keys.now (eq_same c.args.buckets.now.eq c.args.key.now) (bucket c.args.key.now) c.requires.alike c.args.self.now.firsts.items nexts c.requires.linked i c.index-keys-place.result c.loop-place.invariant c.loop-place-test.true in
    omega (arith, read, on, c.loop-place-test.true)

pub loop-place-preserved : goal.loop-place-preserved
loop-place-preserved c =
    let bucket = bucket_of c.args.buckets.now in
    let keys = c.args.keys.now in
    let same = eq_same c.args.buckets.now.eq c.args.key.now in
    let nexts = c.args.self.now.nexts.items in
    let i = c.loop-place.place in
    let below : i < length nexts = omega (arith, c.loop-place-test.true, c.requires.linked.long) in
    let read : get_or nexts i 0 ≡ c.index-in-loop-place.result.now = get_or_default nexts i 0 c.index-in-loop-place.result.now below ∙ sym c.index-in-loop-place.ensures in
    let differs = ap same (sym c.index-keys-place.is) ∙ sym c.same.ensures ∙ c.if-same.false in
    subst (λ (k : ℕ). IsOnWay bucket keys same (bucket c.args.key.now) k) read (way_next bucket keys same (bucket c.args.key.now) c.requires.alike c.args.self.now.firsts.items nexts c.requires.linked i c.index-keys-place.result c.loop-place.invariant c.loop-place-test.true differs)
