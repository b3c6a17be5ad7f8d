use Rattle.std.proofs.Common.{◌≡◌, take}
use Rattle.hash_bucket.specs.Buckets.{elements}
use Rattle.hash_bucket.proofs.tree.HashTree.to_list.Given as goal

abbrev pub invariant-loop-bucket : goal.invariant-loop-bucket
invariant-loop-bucket g l = l.copies.items ≡ elements (take l.bucket-index l.bucket-items)
