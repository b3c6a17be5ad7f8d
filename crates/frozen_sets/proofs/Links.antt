-- A table that is filled from the last key to the first, and a walk along a bucket.
use Rattle.std.proofs.Common.{◌≡◌, ◌≢◌, ℕ, suc, ◌+◌, ◌<◌, ◌≤◌, Bool, true, false, not, cond, List, [], ◌∷◌, length, drop, get_or, set, replicate, arith, ap, sym, ◌∙◌, refl, subst, eq-eqb, nat_eq, nat_lt, Some, None}
use Rattle.std.proofs.lemmas.Bool.{eqb-true}
use Rattle.std.specs.List.{position_or_len, position}
use Rattle.std.proofs.lemmas.List.{drop-drop, length-set, get_or-set_same, get_or-set_other, get_or-replicate, length-replicate, get_or_default, get_or-drop, length-drop}
use Rattle.std.proofs.lemmas.List.Sums.{prefix_len-drop_all, prefix_len-drop_no, prefix_len-drop_yes, prefix_len-le-length, prefix_len_stops}
use Rattle.frozen_sets.specs.Table.{next_place, next_in, AreLinked}

was_true : (b : Bool) → not b ≡ false → b ≡ true
was_true true e = refl
was_true false e = absurd (let f : true ≡ false = e in cc)

module _ {T : Type 0} (test : T → Bool) where
  pub place_here : (xs : List T) (i : ℕ) (d : T) → i < length xs → test (get_or xs i d) ≡ true → next_place test i xs ≡ i
  place_here xs i d below e = omega (arith, prefix_len-drop_no (λ x. not (test x)) xs i d below (ap not e))

  pub place_past : (xs : List T) (i : ℕ) (d : T) → i < length xs → test (get_or xs i d) ≡ false → next_place test i xs ≡ next_place test (i + 1) xs
  place_past xs i d below e = omega (arith, prefix_len-drop_yes (λ x. not (test x)) xs i d below (ap not e))

  pub place_end : (xs : List T) (i : ℕ) → length xs ≤ i → next_place test i xs ≡ i
  place_end xs i past = omega (arith, prefix_len-drop_all (λ x. not (test x)) xs i past)

  module _ (wider : T → Bool) (wide : (x : T) → test x ≡ true → wider x ≡ true) where
    skipped : (xs : List T) → position_or_len test xs ≡ position_or_len wider xs + position_or_len test (drop (position_or_len wider xs) xs)
    skipped [] = refl
    skipped (x ∷ xs) = elim (wider x) as (λ t. wider x ≡ t → cond (not (test x)) (1 + position_or_len test xs) 0 ≡ cond (not t) (1 + position_or_len wider xs) 0 + position_or_len test (drop (cond (not t) (1 + position_or_len wider xs) 0) (x ∷ xs))) [
      | true ↦ λ _. omega arith
      | false ↦ λ e. (
          let fails : test x ≡ false = elim (test x) as (λ t. test x ≡ t → t ≡ false) [ true ↦ λ f. absurd (let g = sym e ∙ wide x f in cc) | false ↦ λ _. refl ] refl in
          let n = position_or_len wider xs in
          let on : 1 + n ≡ suc n = omega arith in
          rw fails (ap (λ k. 1 + k) (skipped xs) ∙ (let e : 1 + (n + position_or_len test (drop n xs)) ≡ (1 + n) + position_or_len test (drop n xs) = omega arith in e) ∙ ap (λ (k : ℕ). 1 + n + position_or_len test (drop k (x ∷ xs))) (sym on))
          )
    ] refl

    -- the places between may be passed over
    pub place_skipped : (xs : List T) (i : ℕ) → next_place test (next_place wider i xs) xs ≡ next_place test i xs
    place_skipped xs i =
        let n = position_or_len wider (drop i xs) in
        omega (arith, ap (position_or_len test) (drop-drop n i xs), skipped (drop i xs))

  place_from_start : (xs : List T) → next_place test 0 xs ≡ position_or_len test xs
  place_from_start xs = omega arith

  -- ---- what a search from the start finds

  pub found_at : (xs : List T) (i : ℕ) (d : T) → next_place test i xs ≡ next_place test 0 xs → i < length xs → test (get_or xs i d) ≡ true → position test xs ≡ Some i
  found_at xs i d same below e =
      let is : position_or_len test xs ≡ i = sym (place_from_start xs) ∙ sym same ∙ place_here xs i d below e in
      let inside : nat_lt i (length xs) ≡ true = grind arith in
      rw (is, inside) refl

  pub nothing_at : (xs : List T) (i : ℕ) → next_place test i xs ≡ next_place test 0 xs → length xs ≤ i → position test xs ≡ None
  nothing_at xs i same past =
      let is : position_or_len test xs ≡ i = sym (place_from_start xs) ∙ sym same ∙ place_end xs i past in
      let outside : nat_lt i (length xs) ≡ false = grind arith in
      rw (is, outside) refl

  pub place_at_most : (xs : List T) (i : ℕ) → i ≤ length xs → next_place test i xs ≤ length xs
  place_at_most xs i within = omega (arith, prefix_len-le-length (λ x. not (test x)) (drop i xs), length-drop i xs)

  pub place_passes : (xs : List T) (i : ℕ) (d : T) → next_place test i xs < length xs → test (get_or xs (next_place test i xs) d) ≡ true
  place_passes xs i d below =
      let n = position_or_len test (drop i xs) in
      let inside : n < length (drop i xs) = omega (arith, length-drop i xs) in
      ap test (sym (get_or-drop i xs n d)) ∙ was_true (test (get_or (drop i xs) n d)) (prefix_len_stops (λ x. not (test x)) (drop i xs) d inside)

module _ {T : Type 0} (bucket : T → ℕ) (keys : List T) where
  abbrev in_bucket : ℕ → T → Bool
  in_bucket b x = nat_eq (bucket x) b

  -- ---- the table is filled

  pub none_linked : (size : ℕ) → AreLinked bucket (length keys) keys (replicate size (length keys)) (replicate (length keys) (length keys))
  none_linked size = record {
    long = length-replicate (length keys) (length keys);
    first = λ b below.
        let inside : b < size = omega (arith, below, length-replicate size (length keys)) in
        get_or-replicate size b (length keys) 0 inside ∙ sym (place_end (in_bucket b) keys (length keys) (omega arith));
    next = λ k x from below. absurd (omega (arith, from, below));
  }

  module _ (i b : ℕ) (firsts nexts : List ℕ) (d : T) (below : i < length keys) (is : b ≡ bucket (get_or keys i d)) (within : b < length firsts) (linked : AreLinked bucket (i + 1) keys firsts nexts) where
    more_first : (c : ℕ) → c < length (set firsts b i) → get_or (set firsts b i) c 0 ≡ next_in bucket c i keys
    more_first c inside = elim (nat_eq (bucket (get_or keys i d)) c) as (λ t. nat_eq (bucket (get_or keys i d)) c ≡ t → get_or (set firsts b i) c 0 ≡ next_in bucket c i keys) [
      | true ↦ λ e. (
          let here : c ≡ b = sym (eqb-true (bucket (get_or keys i d)) c e) ∙ sym is in
          ap (λ (k : ℕ). get_or (set firsts b i) k 0) here ∙ get_or-set_same firsts b i 0 within ∙ sym (place_here (in_bucket c) keys i d below e)
          )
      | false ↦ λ e. (
          let other : c ≢ b = λ same. (let f = sym e ∙ eq-eqb (bucket (get_or keys i d)) c (sym is ∙ sym same) in cc) in
          let inside' : c < length firsts = omega (arith, inside, length-set firsts b i) in
          get_or-set_other firsts b c i 0 other ∙ linked.first c inside' ∙ sym (place_past (in_bucket c) keys i d below e)
          )
    ] refl

    more_next : (k : ℕ) (x : T) → i ≤ k → k < length keys → get_or (set nexts i (get_or firsts b 0)) k 0 ≡ next_in bucket (bucket (get_or keys k x)) (k + 1) keys
    more_next k x from inside = elim (nat_eq k i) as (λ t. nat_eq k i ≡ t → get_or (set nexts i (get_or firsts b 0)) k 0 ≡ next_in bucket (bucket (get_or keys k x)) (k + 1) keys) [
      | true ↦ λ e. (
          let here : i ≡ k = sym (eqb-true k i e) in
          let long : i < length nexts = omega (arith, below, linked.long) in
          let at : get_or (set nexts i (get_or firsts b 0)) i 0 ≡ next_in bucket (bucket (get_or keys i x)) (i + 1) keys =
          get_or-set_same nexts i (get_or firsts b 0) 0 long ∙ linked.first b within
          ∙ ap (λ (c : ℕ). next_in bucket c (i + 1) keys) (is ∙ ap bucket (get_or_default keys i d x below)) in
          subst (λ (k : ℕ). get_or (set nexts i (get_or firsts b 0)) k 0 ≡ next_in bucket (bucket (get_or keys k x)) (k + 1) keys) here at
          )
      | false ↦ λ e. (
          let other : k ≢ i = λ same. (let f = sym e ∙ eq-eqb k i same in cc) in
          get_or-set_other nexts i k (get_or firsts b 0) 0 other ∙ linked.next k x (omega (arith, from, other)) inside
          )
    ] refl

    -- a key more, from the end
    pub linked_more : AreLinked bucket i keys (set firsts b i) (set nexts i (get_or firsts b 0))
    linked_more = record {
      long = length-set nexts i (get_or firsts b 0) ∙ linked.long;
      first = more_first;
      next = more_next;
    }

  -- ---- a key is looked for

  -- the place i is on the way from the start to the first key that passes the test, in the bucket b
  pub record IsOnWay (test : T → Bool) (b i : ℕ) : Type 0 where
    pub within : i ≤ length keys
    pub ahead : next_place test i keys ≡ next_place test 0 keys
    pub there : (d : T) → i < length keys → bucket (get_or keys i d) ≡ b

  module _ (test : T → Bool) (b : ℕ) (alike : (x : T) → test x ≡ true → bucket x ≡ b) (firsts nexts : List ℕ) (linked : AreLinked bucket 0 keys firsts nexts) where
    wide : (x : T) → test x ≡ true → in_bucket b x ≡ true
    wide x e = eq-eqb (bucket x) b (alike x e)

    way_from : (i j : ℕ) → i ≤ length keys → next_place test i keys ≡ next_place test 0 keys → j ≡ next_in bucket b i keys → IsOnWay test b j
    way_from i j inside same is = record {
      within = subst (λ (k : ℕ). k ≤ length keys) (sym is) (place_at_most (in_bucket b) keys i inside);
      ahead = ap (λ (k : ℕ). next_place test k keys) is ∙ place_skipped test (in_bucket b) wide keys i ∙ same;
      there = λ d below.
          let inside' : next_in bucket b i keys < length keys = subst (λ (k : ℕ). k < length keys) is below in
          ap (λ (k : ℕ). bucket (get_or keys k d)) is ∙ eqb-true (bucket (get_or keys (next_in bucket b i keys) d)) b (place_passes (in_bucket b) keys i d inside');
    }

    pub way_first : b < length firsts → IsOnWay test b (get_or firsts b 0)
    way_first within = way_from 0 (get_or firsts b 0) (omega arith) refl (linked.first b within)

    next_is : (i : ℕ) (d : T) → IsOnWay test b i → i < length keys → get_or nexts i 0 ≡ next_in bucket b (i + 1) keys
    next_is i d way below = linked.next i d (omega arith) below ∙ ap (λ (c : ℕ). next_in bucket c (i + 1) keys) (way.there d below)

    pub way_next : (i : ℕ) (d : T) → IsOnWay test b i → i < length keys → test (get_or keys i d) ≡ false → IsOnWay test b (get_or nexts i 0)
    way_next i d way below e =
        way_from (i + 1) (get_or nexts i 0) (omega (arith, below)) (sym (place_past test keys i d below e) ∙ way.ahead) (next_is i d way below)

    pub way_on : (i : ℕ) (d : T) → IsOnWay test b i → i < length keys → i < get_or nexts i 0
    way_on i d way below = omega (arith, next_is i d way below)
