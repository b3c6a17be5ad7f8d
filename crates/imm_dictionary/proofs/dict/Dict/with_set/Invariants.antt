use Rattle.std.proofs.Common.{◌≡◌, take}
use Rattle.imm_base.specs.Maps.{set_all}
use Rattle.imm_dictionary.proofs.dict.Dict.with_set.Given as goal

abbrev pub invariant-loop-pair : goal.invariant-loop-pair
invariant-loop-pair g l = record {
  pairs : l.map.pairs ≡ set_all g.K.Ord.cmp (g.H.HashEq.same l.self.eq) g.V.PartialEq.eq (take l.pair-index l.pairs) l.self.pairs;
  eq : l.map.eq ≡ l.self.eq;
}
