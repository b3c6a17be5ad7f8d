-- What contracts see of frozen collections, the elements or pairs in the ordinal order of the keys.
use Rattle.std.specs.Prelude.{List}
use Rattle.imm_base.specs.declared.val.Val.{Val}
use Rattle.imm_base.specs.declared.comparers.ValEq.{ValEq}
use Rattle.imm_base.specs.Maps.{Entries}

-- the elements of a set, and the equality that says which are same
pub record Elements : Type 0 where
  pub eq : ValEq
  pub items : List Val

-- the pairs of a map, and the equality that says which keys are same
pub record Paired (V : Type 0) : Type 0 where
  pub eq : ValEq
  pub pairs : Entries Val V
