-- Buckets stay buckets where an element comes or goes.
use Rattle.std.proofs.Common.{◌≡◌, ℕ, suc, ◌+◌, ◌<◌, ◌≤◌, Bool, true, false, not, cond, ◌||◌, List, [], ◌∷◌, ◌++◌, length, arith, ap, sym, ◌∙◌, refl, subst, length-append, Some, None}
use Rattle.std.specs.Prelude.{ℤ, find, Option, insert, remove, slice_set, Ok, is_some}
use Rattle.std.specs.List.{AllByRecursion, list_any}
use Rattle.std.specs.Option.{option_map_or}
use Rattle.std.specs.Cmp.{IsTotalOrder, IsEquivalence, int_cmp_total, tied_itself}
use Rattle.std.specs.Ordering.{is_lt, int_cmp}
use Rattle.std.specs.declared.cmp.Ordering.{Ordering}
use Rattle.std.specs.declared.cmp.Ordering.TheVariants.{Less, Equal}
use Rattle.std.proofs.lemmas.List.Folds.{list_any-append}
use Rattle.imm_base.specs.Lists.{insert_sorted}
use Rattle.imm_base.specs.declared.val.Edit.TheVariants.{New}
use Rattle.imm_base.specs.Edits.{is_over}
use Rattle.imm_base.specs.Sets.{has, set_add}
use Rattle.imm_base.specs.Kept.{IsBelowAll, Rises, AreDistinct, AreTiesSame, IsExact, IsSet}
use Rattle.imm_base.proofs.Inserted.{put, insert_sorted_is_put, length-put}
use Rattle.imm_base.proofs.KeptSets.{or_no, set_filter, set_insert, rises_filter}
use Rattle.imm_base.proofs.KeptMaps.{none_left, is_some-find}
use Rattle.avl_node.proofs.Keys.{rises_with}
use Rattle.hash_bucket.specs.Bucketed.{Bucketed}
use Rattle.hash_bucket.specs.Buckets.{elements, bucket_cmp, has_hash, items_at, without_hash, with_bucket, hash_order, IsBucket, AreBuckets}
use Rattle.hash_bucket.specs.Places.{IsBucketAt, IsNoBucketAt}
use Rattle.hash_bucket.specs.Rows.{others, with_same}
use Rattle.hash_bucket.proofs.Hashes.{hash_is, all_kept, all_filter, all_put, under_equal}
use Rattle.hash_bucket.proofs.Elements.{HaveHashes, items_have, none_among, find-elements, others-elements, above_all, put-elements, elements_with_none}

pub no_answer : (b : Bool) → b ≡ true → b ≡ false → ⊥
no_answer b is isnt = cc

module _ {T : Type 0} (cmp : T → T → Ordering) (same : T → T → Bool) (hash : T → ℤ) where
  pub have_hashes : (bs : List (Bucketed T)) → AllByRecursion (IsBucket cmp same hash) bs → HaveHashes hash bs
  have_hashes [] each = tt
  have_hashes (b ∷ bs) each = (each.0.of_hash, have_hashes bs each.1)

  pub length-le-elements : (bs : List (Bucketed T)) → AllByRecursion (IsBucket cmp same hash) bs → length bs ≤ length (elements bs)
  length-le-elements [] each = omega arith
  length-le-elements (b ∷ bs) each = omega (arith, length-append b.items (elements bs), length-le-elements bs each.1, each.0.some)

  items_set : (h : ℤ) (bs : List (Bucketed T)) → AllByRecursion (IsBucket cmp same hash) bs → IsSet cmp same (items_at h bs)
  items_set h [] each = record { rises = tt; distinct = tt }
  items_set h (b ∷ bs) each = elim (has_hash h b) as (λ t. IsSet cmp same (option_map_or (λ c. c.items) (cond t (Some b) (find (has_hash h) bs)) [])) [
    | true ↦ each.0.set
    | false ↦ items_set h bs each.1
  ]

  -- a bucket in place of that of its hash
  pub with_bucket_are : (c : Bucketed T) (bs : List (Bucketed T)) → AreBuckets cmp same hash bs → IsBucket cmp same hash c → AreBuckets cmp same hash (with_bucket c bs)
  with_bucket_are c bs are here = record {
    rise = rises_with (λ (b : Bucketed T). b.hash) int_cmp int_cmp_total c bs are.rise;
    each = subst (λ (t : List (Bucketed T)). AllByRecursion (IsBucket cmp same hash) t) (sym (insert_sorted_is_put bucket_cmp c (without_hash c.hash bs)))
        (all_put (IsBucket cmp same hash) bucket_cmp c (without_hash c.hash bs) here (all_filter (IsBucket cmp same hash) (λ b. not (has_hash c.hash b)) bs are.each));
  }

  pub without_hash_are : (h : ℤ) (bs : List (Bucketed T)) → AreBuckets cmp same hash bs → AreBuckets cmp same hash (without_hash h bs)
  without_hash_are h bs are = record {
    rise = rises_filter bucket_cmp (λ b. not (has_hash h b)) bs are.rise;
    each = all_filter (IsBucket cmp same hash) (λ b. not (has_hash h b)) bs are.each;
  }

  -- the bucket of the hash h
  items_are : (h : ℤ) (bs : List (Bucketed T)) (b : Bucketed T) → find (has_hash h) bs ≡ Some b → items_at h bs ≡ b.items
  items_are h bs b is = ap (λ (o : Option (Bucketed T)). option_map_or (λ c. c.items) o []) is

  bucket_hash : (h : ℤ) (bs : List (Bucketed T)) (b : Bucketed T) → find (has_hash h) bs ≡ Some b → h ≡ b.hash
  bucket_hash h [] b e = absurd cc
  bucket_hash h (c ∷ cs) b e = elim (has_hash h c) as (λ t. has_hash h c ≡ t → cond t (Some c) (find (has_hash h) cs) ≡ Some b → h ≡ b.hash) [
    | true ↦ λ at f. (let one : c ≡ b = cc in hash_is h c.hash at ∙ ap (λ (d : Bucketed T). d.hash) one)
    | false ↦ λ _ f. bucket_hash h cs b f
  ] refl e

  some_items : (xs : List T) → (xs ≡ [] → ⊥) → 0 < length xs
  some_items [] some = absurd (some refl)
  some_items (x ∷ xs) some = omega arith

  -- ---- a test that only elements of the hash h pass

  module _ (h : ℤ) (p : T → Bool) (alike : (x : T) → p x ≡ true → h ≡ hash x) (bs : List (Bucketed T)) (are : AreBuckets cmp same hash bs) where
    have : HaveHashes hash bs
    have = have_hashes bs are.each

    pub found_in : (b : Bucketed T) → find (has_hash h) bs ≡ Some b → find p b.items ≡ find p (elements bs)
    found_in b is =
        let items : items_at h bs ≡ b.items = ap (λ (o : Option (Bucketed T)). option_map_or (λ c. c.items) o []) is in
        sym (find-elements hash h p alike bs are.rise have ∙ ap (find p) items)

    pub found_nowhere : find (has_hash h) bs ≡ None → None ≡ find p (elements bs)
    found_nowhere is =
        let items : items_at h bs ≡ [] = ap (λ (o : Option (Bucketed T)). option_map_or (λ c. c.items) o []) is in
        sym (find-elements hash h p alike bs are.rise have ∙ ap (find p) items)

    -- others are left in the bucket
    module _ (b : Bucketed T) (is : find (has_hash h) bs ≡ Some b) where
      module _ (c : Bucketed T) (hash_kept : c.hash ≡ b.hash) (rest : c.items ≡ others p b.items) where
        rest_at : c.items ≡ others p (items_at h bs)
        rest_at = rest ∙ ap (others p) (sym (items_are h bs b is))

        pub others_left : elements (with_bucket c bs) ≡ others p (elements bs)
        others_left =
            let at : h ≡ c.hash = bucket_hash h bs b is ∙ sym hash_kept in
            ap elements (insert_sorted_is_put bucket_cmp c (without_hash c.hash bs))
            ∙ ap (λ (g : ℤ). elements (put bucket_cmp c (without_hash g bs))) (sym at)
            ∙ others-elements hash h p alike bs are.rise have c at rest_at

        pub others_left_are : 0 < length c.items → AreBuckets cmp same hash (with_bucket c bs)
        others_left_are some = with_bucket_are c bs are (record {
          some = some;
          of_hash = subst (λ (t : List T). AllByRecursion (λ x. hash x ≡ c.hash) t) (sym rest_at)
              (all_filter (λ x. hash x ≡ c.hash) (λ x. not (p x)) (items_at h bs) (subst (λ (g : ℤ). AllByRecursion (λ x. hash x ≡ g) (items_at h bs)) (bucket_hash h bs b is ∙ sym hash_kept) (items_have hash h bs have)));
          set = subst (λ (t : List T). IsSet cmp same t) (sym rest_at) (set_filter cmp same (λ x. not (p x)) (items_at h bs) (items_set h bs are.each));
        })

        pub nothing_left : c.items ≡ [] → elements (without_hash h bs) ≡ others p (elements bs)
        nothing_left none =
            sym (elements_with_none hash c (without_hash h bs) none) ∙ others-elements hash h p alike bs are.rise have c (bucket_hash h bs b is ∙ sym hash_kept) rest_at

    pub nothing_there : list_any (has_hash h) bs ≡ false → elements bs ≡ others p (elements bs)
    nothing_there none = sym (all_kept p (elements bs) (none_among hash h p alike bs have none))

  -- ---- one element more

  module _ (total : IsTotalOrder cmp) (exact : IsExact cmp) (equal : IsEquivalence same) (alike : (a b : T) → same a b ≡ true → hash a ≡ hash b) (v : T) (bs : List (Bucketed T)) (are : AreBuckets cmp same hash bs) where
    ties : AreTiesSame cmp same
    ties a b e = subst (λ c. same a c ≡ true) (exact a b e) (equal.refl a)

    module _ (d : Bucketed T) (of_hash : hash v ≡ d.hash) (more : d.items ≡ with_same cmp same v (items_at (hash v) bs)) where
      abbrev left : List T
      left = others (same v) (items_at (hash v) bs)

      left_have : AllByRecursion (λ x. hash x ≡ hash v) left
      left_have = all_filter (λ x. hash x ≡ hash v) (λ x. not (same v x)) (items_at (hash v) bs) (items_have hash (hash v) bs (have_hashes bs are.each))

      more_put : d.items ≡ put cmp v left
      more_put = more ∙ insert_sorted_is_put cmp v left

      pub one_more : elements (with_bucket d bs) ≡ with_same (hash_order cmp hash) same v (elements bs)
      one_more =
          let c : Bucketed T = record { hash = hash v; items = left } in
          let rest = without_hash (hash v) bs in
          ap elements (insert_sorted_is_put bucket_cmp d (without_hash d.hash bs))
          ∙ ap (λ (g : ℤ). elements (put bucket_cmp d (without_hash g bs))) (sym of_hash)
          ∙ put-elements hash cmp v rest (rises_filter bucket_cmp (λ b. not (has_hash (hash v) b)) bs are.rise) (have_hashes rest (without_hash_are (hash v) bs are).each) (none_left (has_hash (hash v)) bs) c d refl of_hash left_have more_put
          ∙ ap (λ (t : List T). put (hash_order cmp hash) v t) (others-elements hash (hash v) (same v) (λ x e. alike v x e) bs are.rise (have_hashes bs are.each) c refl refl)
          ∙ sym (insert_sorted_is_put (hash_order cmp hash) v (others (same v) (elements bs)))

      pub one_more_are : AreBuckets cmp same hash (with_bucket d bs)
      one_more_are = with_bucket_are d bs are (record {
        some = let long : length d.items ≡ length left + 1 = ap length more_put ∙ length-put cmp v left in omega arith;
        of_hash = subst (λ (t : List T). AllByRecursion (λ x. hash x ≡ d.hash) t) (sym more_put)
            (subst (λ (g : ℤ). AllByRecursion (λ x. hash x ≡ g) (put cmp v left)) of_hash (all_put (λ x. hash x ≡ hash v) cmp v left refl left_have));
        set = subst (λ (t : List T). IsSet cmp same t) (sym more)
            (set_insert cmp same total equal ties v left (none_left (same v) (items_at (hash v) bs)) (set_filter cmp same (λ x. not (same v x)) (items_at (hash v) bs) (items_set (hash v) bs are.each)));
      })

  -- ---- what the edits of a tree give

  module _ (total : IsTotalOrder cmp) (exact : IsExact cmp) (equal : IsEquivalence same) (alike : (a b : T) → same a b ≡ true → hash a ≡ hash b) (h : ℤ) (v : T) (of_value : h ≡ hash v) (bs : List (Bucketed T)) (are : AreBuckets cmp same hash bs) (d : Bucketed T) where
    -- the buckets are cs, with the value
    abbrev pub HaveMore : List (Bucketed T) → Type 0
    HaveMore cs = AreBuckets cmp same hash cs × (elements cs ≡ with_same (hash_order cmp hash) same v (elements bs))

    have_more : hash v ≡ d.hash → d.items ≡ with_same cmp same v (items_at (hash v) bs) → HaveMore (with_bucket d bs)
    have_more at items = (one_more_are total exact equal alike v bs are d at items, one_more total exact equal alike v bs are d at items)

    pub replaced_more : (b : Bucketed T) (i : ℕ) → IsBucketAt h bs b i → d.hash ≡ b.hash → d.items ≡ with_same cmp same v b.items → (cs : List (Bucketed T)) → cs ≡ slice_set bs i d → HaveMore cs
    replaced_more b i at hash_kept items cs is =
        let of_b : h ≡ b.hash = bucket_hash h bs b at.bucket in
        let of_d : d.hash ≡ h = hash_kept ∙ sym of_b in
        let there : b.items ≡ items_at (hash v) bs = sym (items_are h bs b at.bucket) ∙ ap (λ (g : ℤ). items_at g bs) of_value in
        subst HaveMore (sym (is ∙ at.replaced d of_d)) (have_more (sym of_value ∙ sym of_d) (items ∙ ap (with_same cmp same v) there))

    pub inserted_more : (i : ℕ) → IsNoBucketAt h bs i → d.hash ≡ h → d.items ≡ v ∷ [] → (cs : List (Bucketed T)) → cs ≡ insert bs i d → HaveMore cs
    inserted_more i at of_d items cs is =
        let there : [] ≡ items_at (hash v) bs = ap (λ (o : Option (Bucketed T)). option_map_or (λ c. c.items) o []) (sym at.none) ∙ ap (λ (g : ℤ). items_at g bs) of_value in
        subst HaveMore (sym (is ∙ at.inserted d of_d)) (have_more (sym of_value ∙ sym of_d) (items ∙ sym (insert_sorted_is_put cmp v []) ∙ ap (with_same cmp same v) there))

  module _ (h : ℤ) (p : T → Bool) (alike : (x : T) → p x ≡ true → h ≡ hash x) (bs : List (Bucketed T)) (are : AreBuckets cmp same hash bs) where
    -- the buckets are cs, without what passes
    abbrev pub HaveLess : List (Bucketed T) → Type 0
    HaveLess cs = AreBuckets cmp same hash cs × (elements cs ≡ others p (elements bs))

    module _ (b : Bucketed T) (i : ℕ) (at : IsBucketAt h bs b i) (d : Bucketed T) (hash_kept : d.hash ≡ b.hash) (items : d.items ≡ others p b.items) (cs : List (Bucketed T)) where
      pub replaced_less : (d.items ≡ [] → ⊥) → cs ≡ slice_set bs i d → HaveLess cs
      replaced_less some is =
          let of_d : d.hash ≡ h = hash_kept ∙ sym (bucket_hash h bs b at.bucket) in
          subst HaveLess (sym (is ∙ at.replaced d of_d)) (others_left_are h p alike bs are b at.bucket d hash_kept items (some_items d.items some), others_left h p alike bs are b at.bucket d hash_kept items)

      pub removed_less : d.items ≡ [] → cs ≡ remove bs i → HaveLess cs
      removed_less none is =
          subst HaveLess (sym (is ∙ at.removed)) (without_hash_are h bs are, nothing_left h p alike bs are b at.bucket d hash_kept items none)

    pub same_less : (i : ℕ) → IsNoBucketAt h bs i → HaveLess bs
    same_less i at = (are, nothing_there h p alike bs are (sym (is_some-find (has_hash h) bs) ∙ ap is_some at.none))

  -- ---- the elements of all buckets are a set

  module _ (total : IsTotalOrder cmp) (alike : (a b : T) → same a b ≡ true → hash a ≡ hash b) where
    below_append : (h : ℤ) (x : T) (xs ys : List T) → hash x ≡ h → AllByRecursion (λ y. hash y ≡ h) xs → AllByRecursion (λ y. int_cmp h (hash y) ≡ Less) ys → IsBelowAll cmp x xs → IsBelowAll (hash_order cmp hash) x (xs ++ ys)
    below_append h x [] [] e at above up = tt
    below_append h x [] (y ∷ ys) e at above up =
        (let less : int_cmp (hash x) (hash y) ≡ Less = ap (λ (g : ℤ). int_cmp g (hash y)) e ∙ above.0 in rw less refl, below_append h x [] ys e tt above.1 tt)
    below_append h x (z ∷ xs) ys e at above up =
        (let tie : int_cmp (hash x) (hash z) ≡ Equal = ap (int_cmp (hash x)) (at.0 ∙ sym e) ∙ tied_itself int_cmp_total (hash x) in rw tie up.0, below_append h x xs ys e at.1 above up.1)

    rises_append : (h : ℤ) (xs ys : List T) → AllByRecursion (λ y. hash y ≡ h) xs → AllByRecursion (λ y. int_cmp h (hash y) ≡ Less) ys → Rises cmp xs → Rises (hash_order cmp hash) ys → Rises (hash_order cmp hash) (xs ++ ys)
    rises_append h [] ys at above up further = further
    rises_append h (x ∷ xs) ys at above up further = (below_append h x xs ys at.0 at.1 above up.0, rises_append h xs ys at.1 above up.1 further)

    has_apart : (h : ℤ) (x : T) (ys : List T) → hash x ≡ h → AllByRecursion (λ y. int_cmp h (hash y) ≡ Less) ys → has same x ys ≡ false
    has_apart h x [] e above = refl
    has_apart h x (y ∷ ys) e above = elim (same x y) as (λ t. same x y ≡ t → (t || has same x ys) ≡ false) [
      | true ↦ λ f. absurd (let tie : int_cmp h (hash y) ≡ Equal = ap (int_cmp h) (sym (alike x y f) ∙ e) ∙ tied_itself int_cmp_total h in let g = ap is_lt (sym above.0 ∙ tie) in cc)
      | false ↦ λ _. has_apart h x ys e above.1
    ] refl

    distinct_append : (h : ℤ) (xs ys : List T) → AllByRecursion (λ y. hash y ≡ h) xs → AllByRecursion (λ y. int_cmp h (hash y) ≡ Less) ys → AreDistinct same xs → AreDistinct same ys → AreDistinct same (xs ++ ys)
    distinct_append h [] ys at above d further = further
    distinct_append h (x ∷ xs) ys at above d further =
        (list_any-append (same x) xs ys ∙ rw (d.0, has_apart h x ys at.0 above) refl, distinct_append h xs ys at.1 above d.1 further)

    pub elements_set : (bs : List (Bucketed T)) → Rises bucket_cmp bs → AllByRecursion (IsBucket cmp same hash) bs → IsSet (hash_order cmp hash) same (elements bs)
    elements_set [] up each = record { rises = tt; distinct = tt }
    elements_set (b ∷ bs) up each =
        let rest = elements_set bs up.1 each.1 in
        let above = above_all hash b.hash bs (under_equal b.hash b bs up refl) (have_hashes bs each.1) in
        record {
          rises = rises_append b.hash b.items (elements bs) each.0.of_hash above each.0.set.rises rest.rises;
          distinct = distinct_append b.hash b.items (elements bs) each.0.of_hash above each.0.set.distinct rest.distinct;
        }

-- ---- how many elements there are

module _ {T : Type 0} (same : T → T → Bool) where
  -- where all that pass the test are same, one passes at most
  none_more : (p : T → Bool) → ((x y : T) → p x ≡ true → p y ≡ true → same x y ≡ true) → (x : T) (xs : List T) → p x ≡ true → has same x xs ≡ false → list_any p xs ≡ false
  none_more p alone x [] e none = refl
  none_more p alone x (y ∷ ys) e none =
      let parts = or_no (same x y) (has same x ys) none in
      elim (p y) as (λ t. p y ≡ t → (t || list_any p ys) ≡ false) [
        | true ↦ λ f. absurd (let g : same x y ≡ true = alone x y e f in cc)
        | false ↦ λ _. none_more p alone x ys e parts.1
      ] refl

  pub length-others : (p : T → Bool) → ((x y : T) → p x ≡ true → p y ≡ true → same x y ≡ true) → (xs : List T) → AreDistinct same xs → list_any p xs ≡ true → length (others p xs) + 1 ≡ length xs
  length-others p alone [] distinct there = absurd (let f : false ≡ true = there in cc)
  length-others p alone (x ∷ xs) distinct there =
      elim (p x) as (λ t. p x ≡ t → (t || list_any p xs) ≡ true → length (cond (not t) (x ∷ others p xs) (others p xs)) + 1 ≡ suc (length xs)) [
        | true ↦ λ e _. (let rest : others p xs ≡ xs = all_kept p xs (none_more p alone x xs e distinct.0) in omega (arith, ap length rest))
        | false ↦ λ _ f. omega (arith, length-others p alone xs distinct.1 f)
      ] refl there

  module _ (equal : IsEquivalence same) where
    pub alone_same : (v x y : T) → same v x ≡ true → same v y ≡ true → same x y ≡ true
    alone_same v x y e f = sym (equal.congr v x y e) ∙ f

    pub length-with_old : (cmp : T → T → Ordering) (v : T) (xs : List T) → AreDistinct same xs → has same v xs ≡ true → length (with_same cmp same v xs) ≡ length xs
    length-with_old cmp v xs distinct there =
        ap length (insert_sorted_is_put cmp v (others (same v) xs)) ∙ length-put cmp v (others (same v) xs) ∙ length-others (same v) (alone_same v) xs distinct there

  pub length-with_new : (cmp : T → T → Ordering) (v : T) (xs : List T) → has same v xs ≡ false → length (with_same cmp same v xs) ≡ length xs + 1
  length-with_new cmp v xs none =
      ap length (insert_sorted_is_put cmp v (others (same v) xs)) ∙ length-put cmp v (others (same v) xs) ∙ ap (λ (t : List T). length t + 1) (all_kept (same v) xs none)

  -- an element that is put where no same one is
  pub add_absent : (cmp : T → T → Ordering) (v : T) (xs ys : List T) → has same v xs ≡ false → is_over (length xs + 1) ≡ false → ys ≡ with_same cmp same v xs → set_add cmp same v xs ≡ Ok (New ys)
  add_absent cmp v xs ys none room made =
      rw (none, room) (ap (λ (t : List T). Ok (New t)) (ap (insert_sorted cmp v) (sym (all_kept (same v) xs none)) ∙ sym made))
