-- Buckets that rise by their hashes, and a hash among them.
use Rattle.std.proofs.Common.{◌≡◌, Bool, true, false, not, cond, ◌||◌, List, [], ◌∷◌, ◌++◌, ap, sym, refl, subst}
use denote.Ref.{Bor}
use Rattle.std.specs.Prelude.{ℤ, Option, Some, None, find, filter, is_some}
use Rattle.std.specs.Option.{option_copied}
use Rattle.std.specs.List.{AllByRecursion, list_any}
use Rattle.std.specs.Cmp.{int_cmp_total, signed_Decides, tied_itself}
use Rattle.std.specs.Ordering.{is_eq, is_lt, int_cmp, eq_by_cmp}
use Rattle.std.specs.declared.cmp.Ordering.{Ordering}
use Rattle.std.specs.declared.cmp.Ordering.TheVariants.{Less}
use Rattle.imm_base.specs.Kept.{IsBelowAll, Rises}
use Rattle.imm_base.proofs.Inserted.{put}
use Rattle.hash_bucket.specs.Bucketed.{Bucketed}
use Rattle.hash_bucket.specs.Buckets.{bucket_cmp, has_hash, items_at}

pub hash_is : (g h : ℤ) → eq_by_cmp int_cmp g h ≡ true → g ≡ h
hash_is g h e = (signed_Decides g h).0 e

pub hash_is_itself : (h : ℤ) → eq_by_cmp int_cmp h h ≡ true
hash_is_itself h = ap is_eq (tied_itself int_cmp_total h)

pub is_some-copied : {X : Type 0} (o : Option (Bor X)) → is_some o ≡ is_some (option_copied o)
is_some-copied (Some x) = refl
is_some-copied None = refl

-- a test that finds nothing
module _ {X : Type 0} (p : X → Bool) where
  pub find_nothing : (xs : List X) → list_any p xs ≡ false → find p xs ≡ None
  find_nothing [] none = refl
  find_nothing (x ∷ xs) none = elim (p x) as (λ t. (t || list_any p xs) ≡ false → cond t (Some x) (find p xs) ≡ None) [
    | true ↦ λ f. absurd cc
    | false ↦ λ f. find_nothing xs f
  ] none

  pub all_kept : (xs : List X) → list_any p xs ≡ false → filter (λ x. not (p x)) xs ≡ xs
  all_kept [] none = refl
  all_kept (x ∷ xs) none = elim (p x) as (λ t. (t || list_any p xs) ≡ false → cond (not t) (x ∷ filter (λ y. not (p y)) xs) (filter (λ y. not (p y)) xs) ≡ x ∷ xs) [
    | true ↦ λ f. absurd cc
    | false ↦ λ f. ap (λ t. x ∷ t) (all_kept xs f)
  ] none

module _ {X : Type 0} (P : X → Type 0) where
  pub all_filter : (p : X → Bool) (xs : List X) → AllByRecursion P xs → AllByRecursion P (filter p xs)
  all_filter p [] all = tt
  all_filter p (x ∷ xs) all = elim (p x) as (λ t. AllByRecursion P (cond t (x ∷ filter p xs) (filter p xs))) [
    | true ↦ (all.0, all_filter p xs all.1)
    | false ↦ all_filter p xs all.1
  ]

  pub all_put : (cmp : X → X → Ordering) (x : X) (xs : List X) → P x → AllByRecursion P xs → AllByRecursion P (put cmp x xs)
  all_put cmp x [] here all = (here, tt)
  all_put cmp x (y ∷ ys) here all = elim (is_lt (cmp x y)) as (λ t. AllByRecursion P (cond t (x ∷ y ∷ ys) (y ∷ put cmp x ys))) [
    | true ↦ (here, all)
    | false ↦ (all.0, all_put cmp x ys here all.1)
  ]

  pub all_append : (xs ys : List X) → AllByRecursion P xs → AllByRecursion P ys → AllByRecursion P (xs ++ ys)
  all_append [] ys left right = right
  all_append (x ∷ xs) ys left right = (left.0, all_append xs ys left.1 right)

module _ {T : Type 0} where
  -- h is less than each hash
  abbrev pub IsUnder : ℤ → List (Bucketed T) → Type 0
  IsUnder h bs = AllByRecursion (λ b. int_cmp h b.hash ≡ Less) bs

  under_from_below : (b : Bucketed T) (bs : List (Bucketed T)) → IsBelowAll bucket_cmp b bs → IsUnder b.hash bs
  under_from_below b [] up = tt
  under_from_below b (c ∷ bs) up = (up.0, under_from_below b bs up.1)

  under_less : (h g : ℤ) (bs : List (Bucketed T)) → int_cmp h g ≡ Less → IsUnder g bs → IsUnder h bs
  under_less h g [] less under = tt
  under_less h g (b ∷ bs) less under = (int_cmp_total.trans h g b.hash less under.0, under_less h g bs less under.1)

  -- what is behind a bucket of the hash, or of a greater one
  pub under_behind : (h : ℤ) (b : Bucketed T) (bs : List (Bucketed T)) → Rises bucket_cmp (b ∷ bs) → int_cmp h b.hash ≡ Less → IsUnder h (b ∷ bs)
  under_behind h b bs up less = (less, under_less h b.hash bs less (under_from_below b bs up.0))

  pub under_equal : (h : ℤ) (b : Bucketed T) (bs : List (Bucketed T)) → Rises bucket_cmp (b ∷ bs) → h ≡ b.hash → IsUnder h bs
  under_equal h b bs up e = subst (λ (g : ℤ). IsUnder g bs) (sym e) (under_from_below b bs up.0)

  pub none_under : (h : ℤ) (bs : List (Bucketed T)) → IsUnder h bs → list_any (has_hash h) bs ≡ false
  none_under h [] under = refl
  none_under h (b ∷ bs) under = rw under.0 (none_under h bs under.1)

  -- a bucket of a lesser hash is put in front
  pub put_under : (c : Bucketed T) (bs : List (Bucketed T)) → IsUnder c.hash bs → put bucket_cmp c bs ≡ c ∷ bs
  put_under c [] under = refl
  put_under c (b ∷ bs) under = rw under.0 refl

  pub items_missing : (h : ℤ) (bs : List (Bucketed T)) → list_any (has_hash h) bs ≡ false → items_at h bs ≡ []
  items_missing h bs none = rw (find_nothing (has_hash h) bs none) refl
