-- The slices that are tried, by length and then by start.
use Rattle.std.proofs.Common.{◌≡◌, ℕ, suc, ◌+◌, ◌-◌, ◌<◌, ◌≤◌, Bool, true, false, not, cond, ◌||◌, List, [], ◌∷◌, ◌++◌, length, map, arith, ap, sym, ◌∙◌, refl, subst, min, slice_get, Some, None, Option, take, drop}
use Rattle.std.specs.Prelude.{find, flat_map, fold, option_map, bytes_eq, nat_eq, nat_le, slice_range}
use Rattle.std.specs.List.{list_any}
use Rattle.std.specs.Option.{option_map_or}
use Rattle.std.specs.Ordering.{eq_by_cmp, on, nat_cmp}
use Rattle.std.specs.Cmp.{unsigned_ties}
use Rattle.std.specs.Cmp.Lexicographic.{slice_cmp}
use Rattle.std.proofs.lemmas.Map.Text.{is_eq-slice_cmp}
use Rattle.imm_base.specs.declared.val.Val.{Val}
use Rattle.frozen_sets.specs.Codes.{less_of, piece_of}
use Rattle.imm_base.specs.declared.comparers.ValEq.{ValEq}
use Rattle.plain_model.specs.declared.plain.Strategy.TheVariants.{Length, Slice, Hash}
use Rattle.plain_model.specs.Frozen.{are_distinct, is_integer, is_ordinal, least_length, numbers_from, slice_of, strategy_of, tells_apart, text_bytes}
use Rattle.frozen_sets.proofs.Distinct.{distinct_of}

-- ---- what tells texts apart

map_map : {A B C : Type 0} (f : B → C) (g : A → B) (xs : List A) → map f (map g xs) ≡ map (λ x. f (g x)) xs
map_map f g [] = refl
map_map f g (x ∷ xs) = ap (λ t. f (g x) ∷ t) (map_map f g xs)

pub lengths_apart : (keys : List Val) → are_distinct (eq_by_cmp (on (λ key. length (text_bytes key)) nat_cmp)) keys ≡ are_distinct nat_eq (map length (map text_bytes keys))
lengths_apart keys =
    sym (distinct_of (λ key. length (text_bytes key)) nat_eq (eq_by_cmp (on (λ key. length (text_bytes key)) nat_cmp)) (λ a b. sym (unsigned_ties (length (text_bytes a)) (length (text_bytes b)))) keys)
    ∙ ap (are_distinct nat_eq) (sym (map_map length text_bytes keys))

piece_is : (start len : ℕ) (bytes : List ℕ) → slice_range bytes start (start + len) ≡ piece_of start len bytes
piece_is start len bytes = ap (λ (n : ℕ). take n (drop start bytes)) (let e : start + len - start ≡ len = omega arith in e)

pub pieces_apart : (start len : ℕ) (keys : List Val) → are_distinct (eq_by_cmp (on (λ key. piece_of start len (text_bytes key)) (slice_cmp nat_cmp))) keys ≡ tells_apart (map text_bytes keys) (start, len)
pieces_apart start len keys =
    sym (distinct_of (λ key. slice_range (text_bytes key) start (start + len)) bytes_eq (eq_by_cmp (on (λ key. piece_of start len (text_bytes key)) (slice_cmp nat_cmp))) (λ a b. is_eq-slice_cmp (piece_of start len (text_bytes a)) (piece_of start len (text_bytes b)) ∙ (λ i. bytes_eq (sym (piece_is start len (text_bytes a)) i) (sym (piece_is start len (text_bytes b)) i))) keys)
    ∙ ap (are_distinct bytes_eq) (sym (map_map (λ t. slice_range t start (start + len)) text_bytes keys))

-- ---- the least length

min_fold : (a b : ℕ) (keys : List Val) → min a (fold less_of b keys) ≡ fold less_of (min a b) keys
min_fold a b [] = refl
min_fold a b (k ∷ keys) =
    min_fold a (min b (length (text_bytes k))) keys ∙ ap (λ (n : ℕ). fold less_of n keys) (let e : min a (min b (length (text_bytes k))) ≡ min (min a b) (length (text_bytes k)) = omega arith in e)

least_of : (k : Val) (keys : List Val) → fold less_of (length (text_bytes k)) keys ≡ least_length (map text_bytes (k ∷ keys))
least_of k [] = refl
least_of k (l ∷ keys) = sym (min_fold (length (text_bytes k)) (length (text_bytes l)) keys) ∙ ap (λ (n : ℕ). min (length (text_bytes k)) n) (least_of l keys)

pub least_is : (k : Val) (keys : List Val) → slice_get keys 0 ≡ Some k → fold less_of (length (text_bytes k)) keys ≡ least_length (map text_bytes keys)
least_is k [] first = absurd cc
least_is k (l ∷ keys) first =
    let here : l ≡ k = cc in
    subst (λ (x : Val). fold less_of (length (text_bytes x)) (l ∷ keys) ≡ least_length (map text_bytes (l ∷ keys))) here (
    ap (λ (n : ℕ). fold less_of n keys) (let e : min (length (text_bytes l)) (length (text_bytes l)) ≡ length (text_bytes l) = omega arith in e) ∙ least_of l keys
    )

pub least_at_most : (a : ℕ) (keys : List Val) → fold less_of a keys ≤ a
least_at_most a [] = omega arith
least_at_most a (k ∷ keys) = omega (arith, least_at_most (min a (length (text_bytes k))) keys)

-- ---- the search, one number after another

pub find_next : (p : ℕ → Bool) (i n : ℕ) → i < n → p i ≡ false → find p (numbers_from i (n - i)) ≡ find p (numbers_from (i + 1) (n - (i + 1)))
find_next p i n below e =
    let more : n - i ≡ suc (n - (i + 1)) = omega arith in
    ap (λ (k : ℕ). find p (numbers_from i k)) more ∙ rw e refl

pub find_here : (p : ℕ → Bool) (i n : ℕ) → i < n → p i ≡ true → find p (numbers_from i (n - i)) ≡ Some i
find_here p i n below e =
    let more : n - i ≡ suc (n - (i + 1)) = omega arith in
    ap (λ (k : ℕ). find p (numbers_from i k)) more ∙ rw e refl

find-append : {T : Type 0} (p : T → Bool) (xs ys : List T) → find p (xs ++ ys) ≡ option_map_or Some (find p xs) (find p ys)
find-append p [] ys = refl
find-append p (x ∷ xs) ys = elim (p x) as (λ t. cond t (Some x) (find p (xs ++ ys)) ≡ option_map_or Some (cond t (Some x) (find p xs)) (find p ys)) [ true ↦ refl | false ↦ find-append p xs ys ]

find-map : {S T : Type 0} (p : T → Bool) (f : S → T) (xs : List S) → find p (map f xs) ≡ option_map f (find (λ x. p (f x)) xs)
find-map p f [] = refl
find-map p f (x ∷ xs) = elim (p (f x)) as (λ t. cond t (Some (f x)) (find p (map f xs)) ≡ option_map f (cond t (Some x) (find (λ y. p (f y)) xs))) [ true ↦ refl | false ↦ find-map p f xs ]

module _ (p : ℕ × ℕ → Bool) (least : ℕ) where
  -- the slices of one length
  abbrev pub row : ℕ → List (ℕ × ℕ)
  row len = map (λ start. (start, len)) (numbers_from 0 (least + 1 - len))

  -- the slices of this length and of greater ones
  abbrev pub rows_from : ℕ → List (ℕ × ℕ)
  rows_from len = flat_map row (numbers_from len (least + 1 - len))

  rows_more : (len : ℕ) → len < least + 1 → rows_from len ≡ row len ++ rows_from (len + 1)
  rows_more len below =
      let more : least + 1 - len ≡ suc (least + 1 - (len + 1)) = omega arith in
      ap (λ (k : ℕ). flat_map row (numbers_from len k)) more

  pub row_with : (len start : ℕ) → len < least + 1 → find (λ i. p (i, len)) (numbers_from 0 (least + 1 - len)) ≡ Some start → find p (rows_from len) ≡ Some (start, len)
  row_with len start below e = ap (find p) (rows_more len below) ∙ find-append p (row len) (rows_from (len + 1)) ∙ rw (find-map p (λ i. (i, len)) (numbers_from 0 (least + 1 - len)), e) refl

  pub row_without : (len : ℕ) → len < least + 1 → find (λ i. p (i, len)) (numbers_from 0 (least + 1 - len)) ≡ None → find p (rows_from len) ≡ find p (rows_from (len + 1))
  row_without len below e = ap (find p) (rows_more len below) ∙ find-append p (row len) (rows_from (len + 1)) ∙ rw (find-map p (λ i. (i, len)) (numbers_from 0 (least + 1 - len)), e) refl

  pub no_rows : (len : ℕ) → least + 1 ≤ len → find p (rows_from len) ≡ None
  no_rows len past =
      let none : least + 1 - len ≡ 0 = omega arith in
      ap (λ (k : ℕ). find p (flat_map row (numbers_from len k))) none

-- ---- which strategy is chosen

module _ (keys : List Val) (eq : ValEq) (many : nat_le (length keys) 4 ≡ false) (texts : (list_any is_integer keys || not (is_ordinal eq)) ≡ false) where
  pub by_length : are_distinct nat_eq (map length (map text_bytes keys)) ≡ true → strategy_of eq keys ≡ Length
  by_length apart = rw (many, texts, apart) refl

  pub by_slice : (slice : Option (ℕ × ℕ)) → are_distinct nat_eq (map length (map text_bytes keys)) ≡ false → slice_of (map text_bytes keys) ≡ slice → strategy_of eq keys ≡ option_map_or (λ s. Slice s.0 s.1) slice Hash
  by_slice slice apart e = rw (many, texts, apart, e) refl
