use Rattle.std.proofs.Common.{◌≡◌, ◌<◌, ◌∙◌, length, arith}
use Rattle.imm_base.specs.Maps.{set_pair}
use Rattle.imm_base.proofs.Ranges.{set_more}
use Rattle.imm_dictionary.proofs.dict.Dict.with_set.Goals as goal

pub loop-pair-preserved : goal.loop-pair-preserved
loop-pair-preserved g c =
    let below : c.loop-pair.pair-index < length c.args.pairs.now = omega arith in
    let step : c.in_ok-map-2.map.pairs ≡ set_pair g.K.Ord.cmp (g.H.HashEq.same c.args.self.now.eq) g.V.PartialEq.eq c.pair-item.result.0 c.pair-item.result.1 c.loop-pair.map.pairs = rw c.loop-pair.invariant.eq at c.in_ok-map-2.ensures.pairs in
    record {
      pairs = step ∙ set_more g.K.Ord.cmp (g.H.HashEq.same c.args.self.now.eq) g.V.PartialEq.eq c.loop-pair.pair-index c.args.pairs.now c.args.self.now.pairs c.loop-pair.map.pairs c.pair-item.result below c.pair-item.is c.loop-pair.invariant.pairs;
      eq = c.in_ok-map-2.ensures.eq ∙ c.loop-pair.invariant.eq;
    }
