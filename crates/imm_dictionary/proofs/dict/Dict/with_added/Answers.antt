use Rattle.std.proofs.Common.{◌<◌, length, arith}
use Rattle.std.proofs.lemmas.Result.{err_from_is_err_and}
use Rattle.imm_dictionary.proofs.Added.{added_stops}
use Rattle.imm_dictionary.proofs.dict.Dict.with_added.Goals as goal

pub returns-in_err-map-2 : goal.returns-in_err-map-2
returns-in_err-map-2 g c =
    let p = err_from_is_err_and c.from_residual-in_err-map-2.result c.from_residual-in_err-map-2.ensures.1 in
    let below : c.loop-pair.pair-index < length c.args.pairs.now = omega arith in
    rw (p.1, p.2) (added_stops g.K.Ord.cmp (g.H.HashEq.same c.args.self.now.eq) g.V.PartialEq.eq c.args.self.now.eq c.loop-pair.pair-index c.args.pairs.now c.args.self.now.pairs c.loop-pair.map.pairs c.pair-item.result below c.pair-item.is c.loop-pair.invariant.pairs c.in_err-map-2.field-0.0 (rw c.loop-pair.invariant.eq at c.in_err-map-2.ensures))
