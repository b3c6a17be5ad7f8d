-- How a frozen set keeps its elements.
use Rattle.std.specs.Prelude.{◌≡◌, ℕ, ◌+◌, ◌<◌, ◌^◌, List, length}
use Rattle.imm_base.specs.declared.val.Val.{Val}
use Rattle.plain_model.specs.Frozen.{strategy_of}
use Rattle.frozen_sets.specs.declared.buckets.Buckets.{Buckets}
use Rattle.frozen_sets.specs.Codes.{bucket_of}
use Rattle.frozen_sets.specs.Table.{AreLinked}

-- the elements, the strategy that is theirs, and a table of them
pub record AreKept (buckets : Buckets) (keys : List Val) (firsts nexts : List ℕ) : Type 0 where
  pub few : length keys < 2 ^ 31
  pub chosen : buckets.strategy ≡ strategy_of buckets.eq keys
  pub linked : AreLinked (bucket_of buckets) 0 keys firsts nexts
  pub size : length firsts ≡ buckets.mask + 1
