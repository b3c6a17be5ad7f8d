use Rattle.std.proofs.Common.{◌≡◌, ◌+◌, length}
use Rattle.frozen_sets.specs.Codes.{bucket_of}
use Rattle.frozen_sets.specs.Table.{AreLinked}
use Rattle.frozen_sets.proofs.table.Table.new.Given as goal

abbrev pub invariant-loop-place : goal.invariant-loop-place
invariant-loop-place l =
    AreLinked (bucket_of l.buckets) l.place l.keys l.firsts.items l.nexts.items × (length l.firsts.items ≡ l.buckets.mask + 1)
