use Rattle.std.proofs.Common.{◌≡◌, take}
use Rattle.std.specs.Prelude.{fold}
use Rattle.imm_base.specs.Maps.{without_key}
use Rattle.imm_dictionary.proofs.dict.Dict.without_all.Given as goal

abbrev pub invariant-loop-key : goal.invariant-loop-key
invariant-loop-key g l = record {
  pairs : l.map.pairs ≡ fold (λ n k. without_key (g.H.HashEq.same l.self.eq) k n) l.self.pairs (take l.key-index l.keys);
  eq : l.map.eq ≡ l.self.eq;
}
