-- One step on in a list, in buckets and in a walk.
use Rattle.std.proofs.Common.{◌≡◌, ℕ, zero, suc, ◌+◌, ◌≤◌, ◌<◌, List, [], ◌∷◌, ◌++◌, length, map, drop, refl, ap, sym, ◌∙◌, subst, Some, None, arith, Bool, ℤ}
use Rattle.std.specs.Prelude.{slice_get}
use Rattle.std.specs.List.{AllByRecursion}
use Rattle.std.proofs.lemmas.List.{drop-map}
use Rattle.std.proofs.lemmas.Option.{slice_get-map}
use Rattle.std.specs.declared.cmp.Ordering.{Ordering}
use Rattle.hash_bucket.specs.Bucketed.{Bucketed}
use Rattle.hash_bucket.specs.Buckets.{elements, AreBuckets, IsBucket}
use Rattle.plain_model.specs.Places.{Rest, step_to}
use Rattle.enumerators.specs.Series.{EachFilled}

-- ---- a list

module _ {X : Type 0} where
  pub first_of_rest : (xs : List X) (n : ℕ) → slice_get (drop n xs) 0 ≡ slice_get xs n
  first_of_rest [] zero = refl
  first_of_rest [] (suc n) = refl
  first_of_rest (x ∷ xs) zero = refl
  first_of_rest (x ∷ xs) (suc n) = first_of_rest xs n

  drop_suc : (xs : List X) (n : ℕ) → drop (suc n) xs ≡ drop 1 (drop n xs)
  drop_suc [] zero = refl
  drop_suc [] (suc n) = refl
  drop_suc (x ∷ xs) zero = refl
  drop_suc (x ∷ xs) (suc n) = drop_suc xs n

  pub one_dropped : (xs : List X) (n : ℕ) → drop (n + 1) xs ≡ drop 1 (drop n xs)
  one_dropped xs n = (let e : n + 1 ≡ suc n = omega arith in ap (λ (m : ℕ). drop m xs) e) ∙ drop_suc xs n

  pub none_dropped : (xs : List X) (n : ℕ) → slice_get xs n ≡ None → drop n xs ≡ drop 1 (drop n xs)
  none_dropped [] zero e = refl
  none_dropped [] (suc n) e = refl
  none_dropped (x ∷ xs) zero e = cc
  none_dropped (x ∷ xs) (suc n) e = none_dropped xs n e

  none_left : (xs : List X) (n : ℕ) → slice_get xs n ≡ None → drop n xs ≡ []
  none_left [] zero e = refl
  none_left [] (suc n) e = refl
  none_left (x ∷ xs) zero e = cc
  none_left (x ∷ xs) (suc n) e = none_left xs n e

  first_left : (xs ys : List X) (n : ℕ) → n < length xs → slice_get (xs ++ ys) n ≡ slice_get xs n
  first_left [] ys n near = absurd (let f : ⊥ = omega (arith, near) in f)
  first_left (x ∷ xs) ys zero near = refl
  first_left (x ∷ xs) ys (suc n) near = first_left xs ys n (omega (arith, near))

  all_dropped : (xs ys : List X) (n : ℕ) → n + 1 ≡ length xs → ys ≡ drop 1 (drop n (xs ++ ys))
  all_dropped [] ys n last = absurd (let f : ⊥ = omega (arith, last) in f)
  all_dropped (x ∷ []) ys zero last = refl
  all_dropped (x ∷ y ∷ xs) ys zero last = absurd (let f : ⊥ = omega (arith, last) in f)
  all_dropped (x ∷ xs) ys (suc n) last = all_dropped xs ys n (omega (arith, last))

pub ruleset list_steps = (first_of_rest, one_dropped, none_dropped)

-- ---- buckets

module _ {T : Type 0} where
  front : (bs : List (Bucketed T)) (n : ℕ) (b : Bucketed T) → slice_get bs n ≡ Some b → elements (drop n bs) ≡ b.items ++ elements (drop (suc n) bs)
  front [] zero b e = cc
  front [] (suc n) b e = cc
  front (c ∷ cs) zero b e = let same : c ≡ b = cc in ap (λ (d : Bucketed T). d.items ++ elements cs) same
  front (c ∷ cs) (suc n) b e = front cs n b e

  pub first_item : (bs : List (Bucketed T)) (n i : ℕ) (b : Bucketed T) → slice_get bs n ≡ Some b → i < length b.items → slice_get (drop i (elements (drop n bs))) 0 ≡ slice_get b.items i
  first_item bs n i b e near =
      first_of_rest (elements (drop n bs)) i ∙ ap (λ (xs : List T). slice_get xs i) (front bs n b e) ∙ first_left b.items (elements (drop (suc n) bs)) i near

  pub bucket_done : (bs : List (Bucketed T)) (n i : ℕ) (b : Bucketed T) → slice_get bs n ≡ Some b → i + 1 ≡ length b.items → elements (drop (n + 1) bs) ≡ drop 1 (drop i (elements (drop n bs)))
  bucket_done bs n i b e last =
      (let next : n + 1 ≡ suc n = omega arith in ap (λ (m : ℕ). elements (drop m bs)) next)
      ∙ all_dropped b.items (elements (drop (suc n) bs)) i last ∙ ap (λ (xs : List T). drop 1 (drop i xs)) (sym (front bs n b e))

  dropped_none : (xs : List T) (i : ℕ) → xs ≡ [] → drop i xs ≡ []
  dropped_none [] zero e = refl
  dropped_none [] (suc i) e = refl
  dropped_none (x ∷ xs) zero e = cc
  dropped_none (x ∷ xs) (suc i) e = cc

  nothing_left : (bs : List (Bucketed T)) (n i : ℕ) → slice_get bs n ≡ None → drop i (elements (drop n bs)) ≡ []
  nothing_left bs n i e = dropped_none (elements (drop n bs)) i (ap (λ (cs : List (Bucketed T)). elements cs) (none_left bs n e))

  pub nothing_first : (bs : List (Bucketed T)) (n i : ℕ) → slice_get bs n ≡ None → slice_get (drop i (elements (drop n bs))) 0 ≡ None
  nothing_first bs n i e = ap (λ (xs : List T). slice_get xs 0) (nothing_left bs n i e)

  pub nothing_dropped : (bs : List (Bucketed T)) (n i : ℕ) → slice_get bs n ≡ None → drop i (elements (drop n bs)) ≡ drop 1 (drop i (elements (drop n bs)))
  nothing_dropped bs n i e = let none = nothing_left bs n i e in none ∙ ap (λ (xs : List T). drop 1 xs) (sym none)

  module _ (cmp : T → T → Ordering) (same : T → T → Bool) (hash : T → ℤ) where
    filled_by : (bs : List (Bucketed T)) → AllByRecursion (IsBucket cmp same hash) bs → EachFilled bs
    filled_by [] all zero b e = cc
    filled_by [] all (suc i) b e = cc
    filled_by (c ∷ cs) all zero b e = let one : c ≡ b = cc in subst (λ (d : Bucketed T). 0 < length d.items) one all.0.some
    filled_by (c ∷ cs) all (suc i) b e = filled_by cs all.1 i b e

    pub each_filled : (bs : List (Bucketed T)) → AreBuckets cmp same hash bs → EachFilled bs
    each_filled bs are = filled_by bs are.each

pub ruleset bucket_steps = (first_item, bucket_done, nothing_first, nothing_dropped, one_dropped)

-- ---- a walk

pub step_is : {E : Type 0} (whole to_come : List E) → step_to whole to_come ≡ record { whole = whole; to_come = drop 1 to_come; current = slice_get to_come 0 }
step_is whole [] = refl
step_is whole (x ∷ xs) = refl

pub ruleset shown = (drop-map, slice_get-map)
