use Rattle.std.proofs.Common.{◌≡◌, take}
use Rattle.hash_bucket.specs.Rows.{others}
use Rattle.hash_bucket.proofs.bucket.copies.Given as goal

abbrev pub invariant-loop-item : goal.invariant-loop-item
invariant-loop-item g l = l.kept.items ≡ others (g.S.Seek.meets l.sought) (take l.item-index l.items)
