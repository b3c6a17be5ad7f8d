use Rattle.std.proofs.Common.{◌-◌, length}
use Rattle.imm_base.specs.Order.{eq_same}
use Rattle.frozen_sets.specs.Codes.{bucket_of}
use Rattle.frozen_sets.proofs.Links.{IsOnWay}
use Rattle.frozen_sets.proofs.table.Table.place_of.Given as goal

abbrev pub invariant-loop-place : goal.invariant-loop-place
invariant-loop-place l = IsOnWay (bucket_of l.buckets) l.keys (eq_same l.buckets.eq l.key) (bucket_of l.buckets l.key) l.place

abbrev pub decreases-loop-place : goal.decreases-loop-place
decreases-loop-place l = length l.keys - l.place
