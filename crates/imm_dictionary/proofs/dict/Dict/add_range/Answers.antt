use Rattle.std.proofs.Common.{arith}
use Rattle.imm_base.proofs.Ranges.{added_same}
use Rattle.imm_dictionary.proofs.dict.Dict.add_range.Goals as goal

pub returns-then-count : goal.returns-then-count
returns-then-count g c =
    added_same g.K.PartialEq.eq g.V.PartialEq.eq g.K.Ord.cmp (g.H.HashEq.same c.args.self.now.eq) g.met.K.Eq.laws g.met.V.Eq.laws c.args.pairs.now c.args.self.now.pairs c.in_ok-map.map.pairs c.in_ok-map.ensures.0 (omega arith) (omega arith)
