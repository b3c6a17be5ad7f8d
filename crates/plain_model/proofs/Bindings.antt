-- A name among those that are bound.
use Rattle.std.proofs.Common.{◌≡◌, ℕ, zero, suc, ◌+◌, ◌<◌, ◌≤◌, Bool, true, false, not, cond, ltb, List, [], ◌∷◌, ◌++◌, length, slice_get, slice_set, Option, Some, None, option_map, refl, ap, sym, arith}
use Rattle.std.specs.Prelude.{is_some}
use Rattle.std.proofs.lemmas.Slice.Eq.{bytes_eq-Decides}
use Rattle.std.specs.List.{position, position_or_len}
use Rattle.std.specs.Option.{option_map_or}
use Rattle.std.specs.Str.{bytes_eq}
use Rattle.std.proofs.lemmas.Bool.{ltb-true, ltb-false}
use Rattle.plain_model.specs.Names.{Name, Bindings, get, with_name, with_value_at}

-- the place of the first that has this name, or how many there are
abbrev first_place : {T : Type 0} → Name → Bindings T → ℕ
first_place x names = position_or_len (λ b. bytes_eq b.0 x) names

next_place : {T : Type 0} (x : Name) (b : Name × T) (names : Bindings T) (t : Bool) → bytes_eq b.0 x ≡ t → first_place x (b ∷ names) ≡ cond (not t) (1 + first_place x names) 0
next_place x b names t e = ap (λ s. cond (not s) (1 + first_place x names) 0) e

set_at : {T : Type 0} (x : Name) (v : T) (names : Bindings T) (i : ℕ) → first_place x names ≡ i → i < length names → slice_set names i (x, v) ≡ with_name x v names
set_at x v [] i e lt = absurd (omega arith)
set_at {T} x v (b ∷ names) i e lt = by_test (bytes_eq b.0 x) refl (set_at x v names) i e lt
  where
    by_test : (t : Bool) → bytes_eq b.0 x ≡ t → ((k : ℕ) → first_place x names ≡ k → k < length names → slice_set names k (x, v) ≡ with_name x v names)
        → (i : ℕ) → first_place x (b ∷ names) ≡ i → i < length (b ∷ names) → slice_set (b ∷ names) i (x, v) ≡ cond t ((x, v) ∷ names) (b ∷ with_name x v names)
    by_test true is rest zero e lt = refl
    by_test true is rest (suc i) e lt = let first = next_place x b names true is in absurd (omega arith)
    by_test false is rest zero e lt = let next = next_place x b names false is in absurd (omega arith)
    by_test false is rest (suc i) e lt = let next = next_place x b names false is in ap (λ (ns : Bindings T). b ∷ ns) (rest i (omega arith) (omega arith))

put_last : {T : Type 0} (x : Name) (v : T) (names : Bindings T) → length names ≤ first_place x names → names ++ (x, v) ∷ [] ≡ with_name x v names
put_last x v [] le = refl
put_last {T} x v (b ∷ names) le = by_test (bytes_eq b.0 x) refl (put_last x v names)
  where
    by_test : (t : Bool) → bytes_eq b.0 x ≡ t → (length names ≤ first_place x names → names ++ (x, v) ∷ [] ≡ with_name x v names)
        → (b ∷ names) ++ (x, v) ∷ [] ≡ cond t ((x, v) ∷ names) (b ∷ with_name x v names)
    by_test true is rest = let first = next_place x b names true is in absurd (omega arith)
    by_test false is rest = let next = next_place x b names false is in ap (λ (ns : Bindings T). b ∷ ns) (rest (omega arith))

-- the place of a name, if it has one, is the first, and one of the names
at_place : {T : Type 0} (x : Name) (names : Bindings T) (i : ℕ) → position (λ b. bytes_eq b.0 x) names ≡ Some i → (first_place x names ≡ i) × (i < length names)
at_place x names i e = by_test (ltb (first_place x names) (length names)) refl e
  where
    by_test : (t : Bool) → ltb (first_place x names) (length names) ≡ t → cond t (Some (first_place x names)) None ≡ Some i → (first_place x names ≡ i) × (i < length names)
    by_test true is same =
        let at : first_place x names ≡ i = cc in
        let lt : first_place x names < length names = ltb-true (first_place x names) (length names) is in
        (at, omega arith)
    by_test false is same = absurd cc

-- the name is put where it stands
pub put_in_place : {T : Type 0} (x : Name) (v : T) (names : Bindings T) (i : ℕ) → position (λ b. bytes_eq b.0 x) names ≡ Some i → slice_set names i (x, v) ≡ with_name x v names
put_in_place x v names i e = let at = at_place x names i e in set_at x v names i at.0 at.1

-- or behind the others
pub put_behind : {T : Type 0} (x : Name) (v : T) (names : Bindings T) → position (λ b. bytes_eq b.0 x) names ≡ None → names ++ (x, v) ∷ [] ≡ with_name x v names
put_behind x v names e = by_test (ltb (first_place x names) (length names)) refl e
  where
    by_test : (t : Bool) → ltb (first_place x names) (length names) ≡ t → cond t (Some (first_place x names)) None ≡ None → names ++ (x, v) ∷ [] ≡ with_name x v names
    by_test true is same = absurd cc
    by_test false is same =
        let le : length names ≤ first_place x names = ltb-false (first_place x names) (length names) is in
        put_last x v names le

-- a name that is bound stays one name, and another is one more
pub length-with_name : {T : Type 0} (x : Name) (v : T) (names : Bindings T) → length (with_name x v names) ≡ cond (is_some (get names x)) (length names) (length names + 1)
length-with_name x v [] = refl
length-with_name {T} x v (b ∷ names) = by_test (bytes_eq b.0 x) (is_some (get names x)) refl (length-with_name x v names)
  where
    by_test : (t s : Bool) → is_some (get names x) ≡ s → length (with_name x v names) ≡ cond s (length names) (length names + 1)
        → length (cond t ((x, v) ∷ names) (b ∷ with_name x v names)) ≡ cond (is_some (cond t (Some b.1) (get names x))) (length (b ∷ names)) (length (b ∷ names) + 1)
    by_test true s is same = refl
    by_test false true is same = rw is (omega (arith, same))
    by_test false false is same = rw is (omega (arith, same))

pub count_bound : {T : Type 0} (x : Name) (v : T) (names : Bindings T) → is_some (get names x) ≡ true → length names ≡ length (with_name x v names)
count_bound x v names is = let n = length-with_name x v names in sym (rw is at n)

pub count_unbound : {T : Type 0} (x : Name) (v : T) (names : Bindings T) → is_some (get names x) ≡ false → length names + 1 ≡ length (with_name x v names)
count_unbound x v names is = let n = length-with_name x v names in sym (rw is at n)

-- ---- what the name at a place is bound to

same_bytes : (x y : Name) → bytes_eq x y ≡ true → x ≡ y
same_bytes x y e = (bytes_eq-Decides x y).0 e

value_at : {T : Type 0} (x : Name) (names : Bindings T) (i : ℕ) → first_place x names ≡ i → i < length names → option_map (λ b. b.1) (slice_get names i) ≡ get names x
value_at x [] i e lt = absurd (omega arith)
value_at {T} x (b ∷ names) i e lt = by_test (bytes_eq b.0 x) refl (value_at x names) i e lt
  where
    by_test : (t : Bool) → bytes_eq b.0 x ≡ t → ((k : ℕ) → first_place x names ≡ k → k < length names → option_map (λ b. b.1) (slice_get names k) ≡ get names x)
        → (i : ℕ) → first_place x (b ∷ names) ≡ i → i < length (b ∷ names) → option_map (λ b. b.1) (slice_get (b ∷ names) i) ≡ cond t (Some b.1) (get names x)
    by_test true is rest zero e lt = refl
    by_test true is rest (suc i) e lt = let first = next_place x b names true is in absurd (omega arith)
    by_test false is rest zero e lt = let next = next_place x b names false is in absurd (omega arith)
    by_test false is rest (suc i) e lt = let next = next_place x b names false is in rest i (omega arith) (omega arith)

-- a name before the others leaves the change among them
behind : {T : Type 0} (x : Name) (v : T) (names : Bindings T) (b : Name × T) (i : ℕ) → with_value_at i v names ≡ with_name x v names → with_value_at (suc i) v (b ∷ names) ≡ b ∷ with_name x v names
behind {T} x v names b i same = by_found (slice_get names i) same
  where
    by_found : (found : Option (Name × T)) → option_map_or (λ c. slice_set names i (c.0, v)) found names ≡ with_name x v names
        → option_map_or (λ c. b ∷ slice_set names i (c.0, v)) found (b ∷ names) ≡ b ∷ with_name x v names
    by_found None same = ap (λ (ns : Bindings T). b ∷ ns) same
    by_found (Some c) same = ap (λ (ns : Bindings T). b ∷ ns) same

change_at : {T : Type 0} (x : Name) (v : T) (names : Bindings T) (i : ℕ) → first_place x names ≡ i → i < length names → with_value_at i v names ≡ with_name x v names
change_at x v [] i e lt = absurd (omega arith)
change_at {T} x v (b ∷ names) i e lt = by_test (bytes_eq b.0 x) refl (change_at x v names) i e lt
  where
    by_test : (t : Bool) → bytes_eq b.0 x ≡ t → ((k : ℕ) → first_place x names ≡ k → k < length names → with_value_at k v names ≡ with_name x v names)
        → (i : ℕ) → first_place x (b ∷ names) ≡ i → i < length (b ∷ names) → with_value_at i v (b ∷ names) ≡ cond t ((x, v) ∷ names) (b ∷ with_name x v names)
    by_test true is rest zero e lt = ap (λ (y : Name). (y, v) ∷ names) (same_bytes b.0 x is)
    by_test true is rest (suc i) e lt = let first = next_place x b names true is in absurd (omega arith)
    by_test false is rest zero e lt = let next = next_place x b names false is in absurd (omega arith)
    by_test false is rest (suc i) e lt = let next = next_place x b names false is in behind x v names b i (rest i (omega arith) (omega arith))

-- the place of a name is one of the names, its value is what the name is bound to, and a change there is one of the name
pub place_within : {T : Type 0} (x : Name) (names : Bindings T) (i : ℕ) → position (λ b. bytes_eq b.0 x) names ≡ Some i → i < length names
place_within x names i e = (at_place x names i e).1

pub value_at_place : {T : Type 0} (x : Name) (names : Bindings T) (i : ℕ) → position (λ b. bytes_eq b.0 x) names ≡ Some i → option_map (λ b. b.1) (slice_get names i) ≡ get names x
value_at_place x names i e = let at = at_place x names i e in value_at x names i at.0 at.1

pub change_in_place : {T : Type 0} (x : Name) (names : Bindings T) (i : ℕ) → position (λ b. bytes_eq b.0 x) names ≡ Some i → (v : T) → with_value_at i v names ≡ with_name x v names
change_in_place x names i e v = let at = at_place x names i e in change_at x v names i at.0 at.1

nowhere : {T : Type 0} (x : Name) (names : Bindings T) → length names ≤ first_place x names → get names x ≡ None
nowhere x [] le = refl
nowhere {T} x (b ∷ names) le = by_test (bytes_eq b.0 x) refl (nowhere x names)
  where
    by_test : (t : Bool) → bytes_eq b.0 x ≡ t → (length names ≤ first_place x names → get names x ≡ None) → cond t (Some b.1) (get names x) ≡ None
    by_test true is rest = let first = next_place x b names true is in absurd (omega arith)
    by_test false is rest = let next = next_place x b names false is in rest (omega arith)

-- a name that has no place is bound to nothing
pub value_nowhere : {T : Type 0} (x : Name) (names : Bindings T) → position (λ b. bytes_eq b.0 x) names ≡ None → get names x ≡ None
value_nowhere x names e = by_test (ltb (first_place x names) (length names)) refl e
  where
    by_test : (t : Bool) → ltb (first_place x names) (length names) ≡ t → cond t (Some (first_place x names)) None ≡ None → get names x ≡ None
    by_test true is same = absurd cc
    by_test false is same = nowhere x names (ltb-false (first_place x names) (length names) is)
