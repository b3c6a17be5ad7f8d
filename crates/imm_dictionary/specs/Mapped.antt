-- What contracts see of a dictionary.
use Rattle.std.specs.Prelude.{List, map}
use Rattle.imm_base.specs.declared.pair.Pair.{Pair}
use Rattle.imm_base.specs.Maps.{Entries}

-- the pairs, in ordinal order, and the equality that says which keys are same
pub record Mapped (K V H : Type 0) : Type 0 where
  pub eq : H
  pub pairs : Entries K V

-- pairs as keys with values
abbrev pub entry : {K V : Type 0} → Pair K V → K × V
entry p = (p.key, p.value)

abbrev pub entries : {K V : Type 0} → List (Pair K V) → Entries K V
entries ps = map entry ps
