-- What an array holds.
use Rattle.std.specs.Prelude.{List, []}
use Rattle.imm_array.specs.declared.array.Contents.{Contents}
use Rattle.imm_array.specs.declared.array.Contents.TheVariants.{Nothing, Shared}

module _ {T : Type 0} where
  abbrev pub contents_items : Contents T → List T
  contents_items Nothing = []
  contents_items (Shared values) = values.value.items
