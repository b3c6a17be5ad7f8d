use Rattle.std.proofs.Common.{◌≡◌, take}
use Rattle.std.specs.Prelude.{Ok}
use Rattle.imm_base.specs.Maps.{add_all}
use Rattle.imm_dictionary.proofs.dict.Dict.with_added.Given as goal

abbrev pub invariant-loop-pair : goal.invariant-loop-pair
invariant-loop-pair g l = record {
  pairs : add_all g.K.Ord.cmp (g.H.HashEq.same l.self.eq) g.V.PartialEq.eq (take l.pair-index l.pairs) l.self.pairs ≡ Ok l.map.pairs;
  eq : l.map.eq ≡ l.self.eq;
}
