-- What the place of a hash among buckets says of them.
use Rattle.std.specs.Prelude.{◌≡◌, ℕ, ◌<◌, ◌≤◌, ℤ, List, length, insert, remove, slice_set, find, Some, None}
use Rattle.hash_bucket.specs.Bucketed.{Bucketed}
use Rattle.hash_bucket.specs.Buckets.{has_hash, without_hash, with_bucket}

module _ {T : Type 0} (h : ℤ) (bs : List (Bucketed T)) where
  -- the bucket b of the hash h stands at i
  pub record IsBucketAt (b : Bucketed T) (i : ℕ) : Type 0 where
    pub inside : i < length bs
    pub bucket : find (has_hash h) bs ≡ Some b
    pub removed : remove bs i ≡ without_hash h bs
    pub replaced : (c : Bucketed T) → c.hash ≡ h → slice_set bs i c ≡ with_bucket c bs

  -- no bucket has the hash h, and i is the place of one that has
  pub record IsNoBucketAt (i : ℕ) : Type 0 where
    pub inside : i ≤ length bs
    pub none : find (has_hash h) bs ≡ None
    pub whole : without_hash h bs ≡ bs
    pub inserted : (c : Bucketed T) → c.hash ≡ h → insert bs i c ≡ with_bucket c bs
