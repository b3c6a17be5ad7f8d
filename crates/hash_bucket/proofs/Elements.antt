-- The elements of buckets, where one bucket changes.
use Rattle.std.proofs.Common.{◌≡◌, ℕ, ◌+◌, ◌<◌, Bool, true, false, not, cond, ◌||◌, List, [], ◌∷◌, ◌++◌, length, ap, sym, ◌∙◌, refl, subst, append_assoc, append-nil, take, get_or}
use Rattle.std.specs.Prelude.{ℤ, Option, Some, None, find}
use Rattle.std.specs.List.{AllByRecursion, list_any}
use Rattle.std.specs.Option.{option_map_or, option_or}
use Rattle.std.specs.Cmp.{int_cmp_total, tied_itself}
use Rattle.std.specs.Ordering.{is_eq, is_lt, int_cmp, eq_by_cmp}
use Rattle.std.specs.declared.cmp.Ordering.{Ordering}
use Rattle.std.specs.declared.cmp.Ordering.TheVariants.{Less, Equal, Greater}
use Rattle.std.proofs.lemmas.List.{take_more}
use Rattle.std.proofs.lemmas.List.Folds.{list_any-append, find-append}
use Rattle.std.proofs.lemmas.List.Elements.{filter-append}
use Rattle.imm_base.specs.Kept.{Rises}
use Rattle.imm_base.proofs.Inserted.{put}
use Rattle.hash_bucket.specs.Bucketed.{Bucketed}
use Rattle.hash_bucket.specs.Buckets.{elements, bucket_cmp, has_hash, items_at, without_hash, hash_order}
use Rattle.hash_bucket.specs.Rows.{others}
use Rattle.hash_bucket.proofs.Hashes.{hash_is, find_nothing, all_kept, IsUnder, under_behind, under_equal, none_under, put_under, items_missing, all_append}

-- what a test finds in elements that are all tried
pub find_first : {X : Type 0} (p : X → Bool) (xs ys : List X) → list_any p ys ≡ false → find p (xs ++ ys) ≡ find p xs
find_first p xs ys none =
    find-append p xs ys ∙ ap (λ t. option_or (find p xs) t) (find_nothing p ys none) ∙ (elim (find p xs) as (λ (t : Option _). option_or t None ≡ t) [ Some x ↦ refl | None ↦ refl ])

pub find_second : {X : Type 0} (p : X → Bool) (xs ys : List X) → list_any p xs ≡ false → find p (xs ++ ys) ≡ find p ys
find_second p xs ys none = find-append p xs ys ∙ ap (λ t. option_or t (find p ys)) (find_nothing p xs none)

module _ {T : Type 0} (hash : T → ℤ) where
  -- each element has the hash of its bucket
  abbrev pub HaveHashes : List (Bucketed T) → Type 0
  HaveHashes bs = AllByRecursion (λ b. AllByRecursion (λ x. hash x ≡ b.hash) b.items) bs

  pub items_have : (h : ℤ) (bs : List (Bucketed T)) → HaveHashes bs → AllByRecursion (λ x. hash x ≡ h) (items_at h bs)
  items_have h [] have = tt
  items_have h (b ∷ bs) have =
      elim (has_hash h b) as (λ t. has_hash h b ≡ t → AllByRecursion (λ x. hash x ≡ h) (option_map_or (λ c. c.items) (cond t (Some b) (find (has_hash h) bs)) [])) [
        | true ↦ λ e. subst (λ (g : ℤ). AllByRecursion (λ x. hash x ≡ g) b.items) (sym (hash_is h b.hash e)) have.0
        | false ↦ λ _. items_have h bs have.1
      ] refl

  -- a test that only elements of the hash h pass
  module _ (h : ℤ) (p : T → Bool) (alike : (x : T) → p x ≡ true → h ≡ hash x) where
    none_of : (g : ℤ) (xs : List T) → eq_by_cmp int_cmp h g ≡ false → AllByRecursion (λ x. hash x ≡ g) xs → list_any p xs ≡ false
    none_of g [] apart all = refl
    none_of g (x ∷ xs) apart all = elim (p x) as (λ t. p x ≡ t → (t || list_any p xs) ≡ false) [
      | true ↦ λ e. absurd (let is : h ≡ g = alike x e ∙ all.0 in let tie : eq_by_cmp int_cmp h g ≡ true = ap is_eq (ap (int_cmp h) (sym is) ∙ tied_itself int_cmp_total h) in cc)
      | false ↦ λ _. none_of g xs apart all.1
    ] refl

    pub none_among : (bs : List (Bucketed T)) → HaveHashes bs → list_any (has_hash h) bs ≡ false → list_any p (elements bs) ≡ false
    none_among [] have none = refl
    none_among (b ∷ bs) have none =
        list_any-append p b.items (elements bs)
        ∙ (elim (has_hash h b) as (λ t. has_hash h b ≡ t → (t || list_any (has_hash h) bs) ≡ false → (list_any p b.items || list_any p (elements bs)) ≡ false) [
          | true ↦ λ _ f. absurd cc
          | false ↦ λ e f. rw (none_of b.hash b.items e have.0) (none_among bs have.1 f)
        ] refl none)

    -- the element is found in the bucket of the hash
    pub find-elements : (bs : List (Bucketed T)) → Rises bucket_cmp bs → HaveHashes bs → find p (elements bs) ≡ find p (items_at h bs)
    find-elements [] up have = refl
    find-elements (b ∷ bs) up have =
        elim (has_hash h b) as (λ t. has_hash h b ≡ t → find p (b.items ++ elements bs) ≡ find p (option_map_or (λ c. c.items) (cond t (Some b) (find (has_hash h) bs)) [])) [
          | true ↦ λ e. find_first p b.items (elements bs) (none_among bs have.1 (none_under h bs (under_equal h b bs up (hash_is h b.hash e))))
          | false ↦ λ e. find_second p b.items (elements bs) (none_of b.hash b.items e have.0) ∙ find-elements bs up.1 have.1
        ] refl

    -- the others are those of the other buckets, and the others in the bucket of the hash
    pub others-elements : (bs : List (Bucketed T)) → Rises bucket_cmp bs → HaveHashes bs → (c : Bucketed T) → h ≡ c.hash → c.items ≡ others p (items_at h bs) → elements (put bucket_cmp c (without_hash h bs)) ≡ others p (elements bs)
    others-elements [] up have c of_hash rest = append-nil c.items ∙ rest
    others-elements (b ∷ bs) up have c of_hash rest =
        elim (int_cmp h b.hash) as (λ r. int_cmp h b.hash ≡ r → elements (put bucket_cmp c (without_hash h (b ∷ bs))) ≡ others p (b.items ++ elements bs)) [
          | Less ↦ λ e.
              (let under : IsUnder h (b ∷ bs) = under_behind h b bs up e in
              let none : list_any (has_hash h) (b ∷ bs) ≡ false = none_under h (b ∷ bs) under in
              let empty : c.items ≡ [] = rest ∙ ap (others p) (items_missing h (b ∷ bs) none) in
              ap (λ t. elements (put bucket_cmp c t)) (all_kept (has_hash h) (b ∷ bs) none)
              ∙ ap elements (put_under c (b ∷ bs) (subst (λ (g : ℤ). IsUnder g (b ∷ bs)) of_hash under))
              ∙ ap (λ t. t ++ elements (b ∷ bs)) empty
              ∙ sym (all_kept p (elements (b ∷ bs)) (none_among (b ∷ bs) have none)))
          | Equal ↦ λ e.
              (let there : has_hash h b ≡ true = ap is_eq e in
              let under : IsUnder h bs = under_equal h b bs up (hash_is h b.hash there) in
              let none : list_any (has_hash h) bs ≡ false = none_under h bs under in
              let here : c.items ≡ others p b.items = rw there at rest in
              ap (λ t. elements (put bucket_cmp c t)) (rw there (all_kept (has_hash h) bs none))
              ∙ ap elements (put_under c bs (subst (λ (g : ℤ). IsUnder g bs) of_hash under))
              ∙ ap (λ t. t ++ elements bs) here
              ∙ ap (λ t. others p b.items ++ t) (sym (all_kept p (elements bs) (none_among bs have.1 none)))
              ∙ sym (filter-append (λ x. not (p x)) b.items (elements bs)))
          | Greater ↦ λ e.
              (let apart : has_hash h b ≡ false = ap is_eq e in
              let behind : int_cmp c.hash b.hash ≡ Greater = ap (λ g. int_cmp g b.hash) (sym of_hash) ∙ e in
              let rest_on : c.items ≡ others p (items_at h bs) = rw apart at rest in
              ap (λ t. elements (put bucket_cmp c t)) (let kept : without_hash h (b ∷ bs) ≡ b ∷ without_hash h bs = rw apart refl in kept)
              ∙ rw behind (ap (λ t. b.items ++ t) (others-elements bs up.1 have.1 c of_hash rest_on))
              ∙ ap (λ t. t ++ others p (elements bs)) (sym (all_kept p b.items (none_of b.hash b.items apart have.0)))
              ∙ sym (filter-append (λ x. not (p x)) b.items (elements bs)))
        ] refl

  -- ---- one element more

  module _ (cmp : T → T → Ordering) (v : T) where
    put_after : (xs ys : List T) → AllByRecursion (λ x. int_cmp (hash v) (hash x) ≡ Greater) xs → put (hash_order cmp hash) v (xs ++ ys) ≡ xs ++ put (hash_order cmp hash) v ys
    put_after [] ys all = refl
    put_after (x ∷ xs) ys all = rw all.0 (ap (λ t. x ∷ t) (put_after xs ys all.1))

    put_at : (xs ys : List T) → AllByRecursion (λ x. int_cmp (hash v) (hash x) ≡ Equal) xs → AllByRecursion (λ y. int_cmp (hash v) (hash y) ≡ Less) ys → put (hash_order cmp hash) v (xs ++ ys) ≡ put cmp v xs ++ ys
    put_at [] [] all above = refl
    put_at [] (y ∷ ys) all above = rw above.0 refl
    put_at (x ∷ xs) ys all above = rw all.0 (elim (is_lt (cmp v x)) as (λ t. cond t (v ∷ x ∷ (xs ++ ys)) (x ∷ put (hash_order cmp hash) v (xs ++ ys)) ≡ cond t (v ∷ x ∷ xs) (x ∷ put cmp v xs) ++ ys) [
      | true ↦ refl
      | false ↦ ap (λ t. x ∷ t) (put_at xs ys all.1 above)
    ])

  moved : (r : Ordering) (h g : ℤ) (xs : List T) → int_cmp h g ≡ r → AllByRecursion (λ x. hash x ≡ g) xs → AllByRecursion (λ x. int_cmp h (hash x) ≡ r) xs
  moved r h g [] is all = tt
  moved r h g (x ∷ xs) is all = (ap (int_cmp h) all.0 ∙ is, moved r h g xs is all.1)

  pub above_all : (h : ℤ) (bs : List (Bucketed T)) → IsUnder h bs → HaveHashes bs → AllByRecursion (λ x. int_cmp h (hash x) ≡ Less) (elements bs)
  above_all h [] under have = tt
  above_all h (b ∷ bs) under have =
      all_append (λ x. int_cmp h (hash x) ≡ Less) b.items (elements bs) (moved Less h b.hash b.items under.0 have.0) (above_all h bs under.1 have.1)

  -- an element is put into the bucket of its hash
  pub put-elements : (cmp : T → T → Ordering) (v : T) (bs : List (Bucketed T)) → Rises bucket_cmp bs → HaveHashes bs → list_any (has_hash (hash v)) bs ≡ false → (c d : Bucketed T) → hash v ≡ c.hash → hash v ≡ d.hash → AllByRecursion (λ x. hash x ≡ hash v) c.items → d.items ≡ put cmp v c.items → elements (put bucket_cmp d bs) ≡ put (hash_order cmp hash) v (elements (put bucket_cmp c bs))
  put-elements cmp v [] up have none c d of_c of_d at more =
      append-nil d.items ∙ more ∙ sym (append-nil (put cmp v c.items)) ∙ sym (put_at cmp v c.items [] (moved Equal (hash v) (hash v) c.items (tied_itself int_cmp_total (hash v)) at) tt)
  put-elements cmp v (b ∷ bs) up have none c d of_c of_d at more =
      elim (int_cmp (hash v) b.hash) as (λ r. int_cmp (hash v) b.hash ≡ r → elements (put bucket_cmp d (b ∷ bs)) ≡ put (hash_order cmp hash) v (elements (put bucket_cmp c (b ∷ bs)))) [
        | Less ↦ λ e.
            (let under : IsUnder (hash v) (b ∷ bs) = under_behind (hash v) b bs up e in
            ap elements (put_under d (b ∷ bs) (subst (λ (g : ℤ). IsUnder g (b ∷ bs)) of_d under))
            ∙ ap (λ t. t ++ elements (b ∷ bs)) more
            ∙ sym (put_at cmp v c.items (elements (b ∷ bs)) (moved Equal (hash v) (hash v) c.items (tied_itself int_cmp_total (hash v)) at) (above_all (hash v) (b ∷ bs) under have))
            ∙ ap (λ t. put (hash_order cmp hash) v (elements t)) (sym (put_under c (b ∷ bs) (subst (λ (g : ℤ). IsUnder g (b ∷ bs)) of_c under))))
        | Equal ↦ λ e. absurd (let there : has_hash (hash v) b ≡ true = ap is_eq e in let f = rw there at none in cc)
        | Greater ↦ λ e.
            (let apart : has_hash (hash v) b ≡ false = ap is_eq e in
            let none_on : list_any (has_hash (hash v)) bs ≡ false = rw apart at none in
            let behind_c : int_cmp c.hash b.hash ≡ Greater = ap (λ g. int_cmp g b.hash) (sym of_c) ∙ e in
            let behind_d : int_cmp d.hash b.hash ≡ Greater = ap (λ g. int_cmp g b.hash) (sym of_d) ∙ e in
            rw (behind_c, behind_d) (ap (λ t. b.items ++ t) (put-elements cmp v bs up.1 have.1 none_on c d of_c of_d at more)
            ∙ sym (put_after cmp v b.items (elements (put bucket_cmp c bs)) (moved Greater (hash v) b.hash b.items e have.0))))
      ] refl

  -- a bucket of nothing adds nothing
  pub elements_with_none : (c : Bucketed T) (bs : List (Bucketed T)) → c.items ≡ [] → elements (put bucket_cmp c bs) ≡ elements bs
  elements_with_none c [] none = append-nil c.items ∙ none
  elements_with_none c (b ∷ bs) none = elim (is_lt (bucket_cmp c b)) as (λ t. elements (cond t (c ∷ b ∷ bs) (b ∷ put bucket_cmp c bs)) ≡ b.items ++ elements bs) [
    | true ↦ ap (λ t. t ++ (b.items ++ elements bs)) none
    | false ↦ ap (λ t. b.items ++ t) (elements_with_none c bs none)
  ]

module _ {T : Type 0} where
  pub elements-append : (bs cs : List (Bucketed T)) → elements (bs ++ cs) ≡ elements bs ++ elements cs
  elements-append [] cs = refl
  elements-append (b ∷ bs) cs = ap (λ t. b.items ++ t) (elements-append bs cs) ∙ sym (append_assoc b.items (elements bs) (elements cs))

  -- the elements of one bucket more
  pub elements_more : (bs : List (Bucketed T)) (i : ℕ) (b : Bucketed T) → i < length bs → b ≡ get_or bs i b → elements (take i bs) ++ b.items ≡ elements (take (i + 1) bs)
  elements_more bs i b below is =
      sym (ap elements (take_more bs i b below) ∙ ap (λ c. elements (take i bs ++ c ∷ [])) (sym is) ∙ elements-append (take i bs) (b ∷ []) ∙ ap (λ t. elements (take i bs) ++ t) (append-nil b.items))

  pub any-elements : (p : T → Bool) (bs : List (Bucketed T)) → list_any (λ b. list_any p b.items) bs ≡ list_any p (elements bs)
  any-elements p [] = refl
  any-elements p (b ∷ bs) = ap (λ t. list_any p b.items || t) (any-elements p bs) ∙ sym (list_any-append p b.items (elements bs))
