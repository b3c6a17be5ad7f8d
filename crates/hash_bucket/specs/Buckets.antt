-- Buckets whose hashes rise, and the elements in them.
use Rattle.std.specs.Prelude.{◌≡◌, ℕ, ◌<◌, ℤ, Bool, not, List, [], ◌∷◌, ◌++◌, length, filter, find}
use Rattle.std.specs.List.{AllByRecursion}
use Rattle.std.specs.Option.{option_map_or}
use Rattle.std.specs.Ordering.{int_cmp, on, then_cmp, eq_by_cmp}
use Rattle.std.specs.declared.cmp.Ordering.{Ordering}
use Rattle.imm_base.specs.Lists.{insert_sorted}
use Rattle.imm_base.specs.Kept.{IsSet, Rises}
use Rattle.hash_bucket.specs.Bucketed.{Bucketed}

module _ {T : Type 0} where
  -- the elements of the buckets, one bucket after another
  abbrev pub elements : List (Bucketed T) → List T
  elements [] = []
  elements (b ∷ bs) = b.items ++ elements bs

  -- buckets by their hashes
  abbrev pub bucket_cmp : Bucketed T → Bucketed T → Ordering
  bucket_cmp = on (λ b. b.hash) int_cmp

  abbrev pub has_hash : ℤ → Bucketed T → Bool
  has_hash h b = eq_by_cmp int_cmp h b.hash

  -- the elements in the bucket of the hash
  abbrev pub items_at : ℤ → List (Bucketed T) → List T
  items_at h bs = option_map_or (λ b. b.items) (find (has_hash h) bs) []

  abbrev pub without_hash : ℤ → List (Bucketed T) → List (Bucketed T)
  without_hash h bs = filter (λ b. not (has_hash h b)) bs

  -- b in its place, and in place of the bucket of its hash
  abbrev pub with_bucket : Bucketed T → List (Bucketed T) → List (Bucketed T)
  with_bucket b bs = insert_sorted bucket_cmp b (without_hash b.hash bs)

-- by hash, and in the order `cmp` where hashes are equal
abbrev pub hash_order : {T : Type 0} → (T → T → Ordering) → (T → ℤ) → T → T → Ordering
hash_order cmp hash = then_cmp (on hash int_cmp) cmp

module _ {T : Type 0} (cmp : T → T → Ordering) (same : T → T → Bool) (hash : T → ℤ) where
  -- a set of some elements of one hash
  pub record IsBucket (b : Bucketed T) : Type 0 where
    pub some : 0 < length b.items
    pub of_hash : AllByRecursion (λ x. hash x ≡ b.hash) b.items
    pub set : IsSet cmp same b.items

  -- one bucket a hash, in the order of the hashes
  pub record AreBuckets (bs : List (Bucketed T)) : Type 0 where
    pub rise : Rises bucket_cmp bs
    pub each : AllByRecursion IsBucket bs

  -- with the number of their elements
  pub record AreCounted (bs : List (Bucketed T)) (count : ℕ) : Type 0 where
    pub buckets : AreBuckets bs
    pub counted : count ≡ length (elements bs)
