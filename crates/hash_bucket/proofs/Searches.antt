-- What a search for a hash finds among buckets.
use Rattle.std.proofs.Common.{ℕ, List, ap, sym, ◌∙◌}
use Rattle.std.specs.Prelude.{ℤ}
use Rattle.std.specs.Cmp.{int_cmp_total}
use Rattle.std.specs.Ordering.{int_cmp}
use Rattle.imm_base.specs.Lists.{insert_sorted}
use Rattle.imm_base.specs.Kept.{Rises}
use Rattle.avl_node.specs.Search.{IsElementAt, IsMissingAt}
use Rattle.avl_node.specs.Sides.{SidesAscend}
use Rattle.avl_node.proofs.Keyed.{IsKeyAt, IsKeyMissingAt}
use Rattle.avl_node.proofs.Keys.{ascend_from_rises, key_at, key_missing_at}
use Rattle.hash_bucket.specs.Bucketed.{Bucketed}
use Rattle.hash_bucket.specs.Buckets.{bucket_cmp, without_hash}
use Rattle.hash_bucket.specs.Places.{IsBucketAt, IsNoBucketAt}

module _ {T : Type 0} (h : ℤ) (bs : List (Bucketed T)) (up : Rises bucket_cmp bs) where
  pub sides_ascend : SidesAscend (λ (b : Bucketed T). int_cmp b.hash h) bs
  sides_ascend = ascend_from_rises (λ (b : Bucketed T). b.hash) int_cmp int_cmp_total h bs up

  pub bucket_at : (b : Bucketed T) (i : ℕ) → IsElementAt (λ (c : Bucketed T). int_cmp c.hash h) bs b i → IsBucketAt h bs b i
  bucket_at b i found =
      let at : IsKeyAt (λ (c : Bucketed T). c.hash) int_cmp h bs i = key_at (λ (c : Bucketed T). c.hash) int_cmp int_cmp_total h bs i up found.at.equal in
      record {
        inside = at.inside;
        bucket = sym at.element ∙ found.element;
        removed = at.removed;
        replaced = λ c e. at.replaced c e ∙ ap (λ (g : ℤ). insert_sorted bucket_cmp c (without_hash g bs)) (sym e);
      }

  pub no_bucket_at : (i : ℕ) → IsMissingAt (λ (c : Bucketed T). int_cmp c.hash h) bs i → IsNoBucketAt h bs i
  no_bucket_at i missing =
      let at : IsKeyMissingAt (λ (c : Bucketed T). c.hash) int_cmp h bs i = key_missing_at (λ (c : Bucketed T). c.hash) int_cmp int_cmp_total h bs i up missing.place missing.equal in
      record {
        inside = at.inside;
        none = at.none;
        whole = at.whole;
        inserted = λ c e.
            at.inserted c e ∙ ap (λ (t : List (Bucketed T)). insert_sorted bucket_cmp c t) (sym at.whole) ∙ ap (λ (g : ℤ). insert_sorted bucket_cmp c (without_hash g bs)) (sym e);
      }
