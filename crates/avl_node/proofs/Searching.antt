-- Where a search in a sorted list ends.
use Rattle.std.proofs.Common.{◌≡◌, ℕ, suc, zero, ◌+◌, ◌<◌, ◌≤◌, ℤ, pos, negsuc, Bool, true, false, not, cond, ltb, List, [], ◌∷◌, length, arith, ap, sym, ◌∙◌, refl, subst, Option, Some, None, slice_get}
use Rattle.std.specs.List.{AllByRecursion, filter, prefix_len}
use Rattle.std.specs.Option.{option_map_or, is_some}
use Rattle.std.specs.Ordering.{is_lt, is_eq}
use Rattle.std.specs.declared.cmp.Ordering.{Ordering}
use Rattle.std.specs.declared.cmp.Ordering.TheVariants.{Less, Equal, Greater}
use Rattle.std.proofs.lemmas.Bool.{lt-ltb, le-ltb}
use Rattle.std.proofs.lemmas.List.Sums.{prefix_len-le-length}
use Rattle.avl_node.specs.Search.{IsElementAt, IsFoundAt, IsMissingAt}
use Rattle.avl_node.specs.Sides.{lower_bound, equal_at, is_equal_at, IsSplit, SidesAscend}
use Rattle.avl_node.proofs.SideLemmas.{found_by}

module _ {T : Type 0} (side : T → Ordering) where
  abbrev other : T → Bool
  other x = not (is_eq (side x))

  none_less : (xs : List T) → AllByRecursion (λ y. is_lt (side y) ≡ false) xs → length (filter (λ y. is_lt (side y)) xs) ≡ 0
  none_less [] all = refl
  none_less (x ∷ xs) all = rw all.0 (none_less xs all.1)

  all_behind : (xs : List T) → AllByRecursion (λ y. side y ≡ Greater) xs → prefix_len other xs ≡ length xs
  all_behind [] all = refl
  all_behind (x ∷ xs) all = rw all.0 (omega (arith, all_behind xs all.1))

  -- how many are less is the place of the first that is not
  less_before : (xs : List T) → IsSplit side xs → length (filter (λ y. is_lt (side y)) xs) ≡ lower_bound side xs
  less_before [] up = refl
  less_before (x ∷ xs) up =
      elim (is_lt (side x)) as (λ t. is_lt (side x) ≡ t → length (cond t (x ∷ filter (λ y. is_lt (side y)) xs) (filter (λ y. is_lt (side y)) xs)) ≡ cond t (1 + lower_bound side xs) 0) [
        | true ↦ λ e. omega (arith, less_before xs up.2)
        | false ↦ λ e. none_less xs (up.0 e)
      ] refl

  equal_next : (x : T) (xs : List T) (k : ℕ) → is_equal_at side (x ∷ xs) (1 + k) ≡ is_equal_at side xs k
  equal_next x xs k = ap (λ i. is_equal_at side (x ∷ xs) i) (let e : 1 + k ≡ suc k = omega arith in e)

  one_more : (t : Bool) (p n : ℕ) → 1 + cond t p n ≡ cond t (1 + p) (suc n)
  one_more true p n = refl
  one_more false p n = omega arith

  first_equal_by : (r : Ordering) (x : T) (xs : List T) → side x ≡ r → IsSplit side (x ∷ xs) → prefix_len other xs ≡ cond (is_equal_at side xs (lower_bound side xs)) (lower_bound side xs) (length xs) → prefix_len other (x ∷ xs) ≡ cond (is_equal_at side (x ∷ xs) (lower_bound side (x ∷ xs))) (lower_bound side (x ∷ xs)) (suc (length xs))
  first_equal_by Less x xs is up rest =
      let front : prefix_len other (x ∷ xs) ≡ 1 + prefix_len other xs = rw is refl in
      let place : lower_bound side (x ∷ xs) ≡ 1 + lower_bound side xs = rw is refl in
      front ∙ ap (λ n. 1 + n) rest ∙ one_more (is_equal_at side xs (lower_bound side xs)) (lower_bound side xs) (length xs) ∙ sym (ap (λ i. cond (is_equal_at side (x ∷ xs) i) i (suc (length xs))) place ∙ ap (λ t. cond t (1 + lower_bound side xs) (suc (length xs))) (equal_next x xs (lower_bound side xs)))
  first_equal_by Equal x xs is up rest =
      let front : prefix_len other (x ∷ xs) ≡ 0 = rw is refl in
      let place : lower_bound side (x ∷ xs) ≡ 0 = rw is refl in
      front ∙ sym (ap (λ i. cond (is_equal_at side (x ∷ xs) i) i (suc (length xs))) place ∙ ap (λ o. cond (is_eq o) 0 (suc (length xs))) is)
  first_equal_by Greater x xs is up rest =
      let front : prefix_len other (x ∷ xs) ≡ 1 + prefix_len other xs = rw is refl in
      let place : lower_bound side (x ∷ xs) ≡ 0 = rw is refl in
      let end : prefix_len other (x ∷ xs) ≡ suc (length xs) = omega (arith, all_behind xs (up.1 is)) in
      end ∙ sym (ap (λ i. cond (is_equal_at side (x ∷ xs) i) i (suc (length xs))) place ∙ ap (λ o. cond (is_eq o) 0 (suc (length xs))) is)

  -- the first equal element is at the place of the first that is not less, or there is none
  first_equal : (xs : List T) → IsSplit side xs → prefix_len other xs ≡ cond (is_equal_at side xs (lower_bound side xs)) (lower_bound side xs) (length xs)
  first_equal [] up = refl
  first_equal (x ∷ xs) up = first_equal_by (side x) x xs refl up (first_equal xs up.2)

  equal_within : (xs : List T) (i : ℕ) → is_equal_at side xs i ≡ true → i < length xs
  equal_within [] i found = absurd cc
  equal_within (x ∷ xs) zero found = omega arith
  equal_within (x ∷ xs) (suc i) found = omega (arith, equal_within xs i found)

  -- what is known of the place of the first element that is not less, by what stands there
  pub found_at : (xs : List T) (i : ℕ) (found : Bool) → SidesAscend side xs → i ≡ lower_bound side xs → found ≡ is_equal_at side xs i → found ≡ true → IsFoundAt side xs i
  found_at xs i found up at seen is =
      let equal : is_equal_at side xs i ≡ true = sym seen ∙ is in
      let missing : ℤ = negsuc (length (filter (λ x. is_lt (side x)) xs)) in
      let here : prefix_len other xs ≡ i =
      first_equal xs up.split ∙ ap (λ j. cond (is_equal_at side xs j) j (length xs)) (sym at) ∙ ap (λ t. cond t i (length xs)) equal in
      record {
        place = at;
        equal = equal;
        inside = equal_within xs i equal;
        index = ap (λ n. option_map_or pos (cond (ltb n (length xs)) (Some n) None) missing) here ∙ ap (λ t. option_map_or pos (cond t (Some i) None) missing) (lt-ltb i (length xs) (equal_within xs i equal));
      }

  pub missing_at : (xs : List T) (i : ℕ) (found : Bool) → SidesAscend side xs → i ≡ lower_bound side xs → found ≡ is_equal_at side xs i → found ≡ false → IsMissingAt side xs i
  missing_at xs i found up at seen is =
      let equal : is_equal_at side xs i ≡ false = sym seen ∙ is in
      let missing : ℤ = negsuc (length (filter (λ x. is_lt (side x)) xs)) in
      let end : prefix_len other xs ≡ length xs =
      first_equal xs up.split ∙ ap (λ j. cond (is_equal_at side xs j) j (length xs)) (sym at) ∙ ap (λ t. cond t i (length xs)) equal in
      record {
        place = at;
        equal = equal;
        inside = subst (λ j. j ≤ length xs) (sym at) (prefix_len-le-length (λ x. is_lt (side x)) xs);
        index = ap (λ n. option_map_or pos (cond (ltb n (length xs)) (Some n) None) missing) end ∙ ap (λ t. option_map_or pos (cond t (Some (length xs)) None) missing) (le-ltb (length xs) (length xs) (omega arith)) ∙ ap negsuc (less_before xs up.split ∙ sym at);
      }

  -- an element that is equal at a place stands there
  stands_at : (xs : List T) (i : ℕ) (x : T) → equal_at side xs i ≡ Some x → slice_get xs i ≡ Some x
  stands_at [] i x is = absurd cc
  stands_at (y ∷ xs) zero x is =
      elim (is_eq (side y)) as (λ t. cond t (Some y) None ≡ Some x → Some y ≡ Some x) [
        | true ↦ λ e. e
        | false ↦ λ e. absurd cc
      ] is
  stands_at (y ∷ xs) (suc i) x is = stands_at xs i x is

  -- what is known of that place and its element, by whether there is one
  pub element_at : (xs : List T) (i : ℕ) (e : Option T) (x : T) → SidesAscend side xs → i ≡ lower_bound side xs → e ≡ equal_at side xs i → e ≡ Some x → IsElementAt side xs x i
  element_at xs i e x up at seen is =
      record {
        at = found_at xs i true up at (sym (sym (found_by side xs i e seen) ∙ ap is_some is)) refl;
        element = stands_at xs i x (sym seen ∙ is);
      }

  pub no_element_at : (xs : List T) (i : ℕ) (e : Option T) → SidesAscend side xs → i ≡ lower_bound side xs → e ≡ equal_at side xs i → e ≡ None → IsMissingAt side xs i
  no_element_at xs i e up at seen is =
      missing_at xs i false up at (sym (sym (found_by side xs i e seen) ∙ ap is_some is)) refl
