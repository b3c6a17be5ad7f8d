-- The place in a node's list, from the place in one side.
use Rattle.std.proofs.Common.{◌≡◌, ℕ, suc, zero, ◌+◌, Bool, true, false, cond, List, [], ◌∷◌, ◌++◌, length, Option, Some, None, arith, ap, sym, ◌∙◌, refl, subst}
use Rattle.std.specs.List.{AllByRecursion}
use Rattle.std.specs.Option.{option_or, option_map, is_some}
use Rattle.std.specs.Ordering.{is_lt, is_eq}
use Rattle.std.specs.declared.cmp.Ordering.{Ordering}
use Rattle.std.specs.declared.cmp.Ordering.TheVariants.{Less, Equal, Greater}
use Rattle.avl_node.specs.Sides.{lower_bound, is_equal_at, equal_at, IsSplit, SidesAscend}

module _ {T : Type 0} where
  all_middle : (P : T → Type 0) (l : List T) (x : T) (m : List T) → AllByRecursion P (l ++ x ∷ m) → P x
  all_middle P [] x m all = all.0
  all_middle P (y ∷ l) x m all = all_middle P l x m all.1

  all_front : (P : T → Type 0) (l m : List T) → AllByRecursion P (l ++ m) → AllByRecursion P l
  all_front P [] m all = tt
  all_front P (y ∷ l) m all = (all.0, all_front P l m all.1)

pub map_or : {A B : Type 0} (f : A → B) (e : Option A) (a : A) → option_map f (option_or e (Some a)) ≡ option_or (option_map f e) (Some (f a))
map_or f None a = refl
map_or f (Some b) a = refl

pub some_map : {A B : Type 0} (f : A → B) (e : Option A) → is_some (option_map f e) ≡ is_some e
some_map f None = refl
some_map f (Some b) = refl

module _ {T : Type 0} (side : T → Ordering) where
  split_front : (l m : List T) → IsSplit side (l ++ m) → IsSplit side l
  split_front [] m up = tt
  split_front (y ∷ l) m up = (λ e. all_front _ l m (up.0 e), λ e. all_front _ l m (up.1 e), split_front l m up.2)

  split_back : (l : List T) (x : T) (m : List T) → IsSplit side (l ++ x ∷ m) → IsSplit side m
  split_back [] x m up = up.2
  split_back (y ∷ l) x m up = split_back l x m up.2

  pub place_cons_less : (y : T) (ys : List T) → side y ≡ Less → lower_bound side (y ∷ ys) ≡ suc (lower_bound side ys)
  place_cons_less y ys less = rw less (omega arith)

  pub place_cons_level : (y : T) (ys : List T) → is_lt (side y) ≡ false → lower_bound side (y ∷ ys) ≡ zero
  place_cons_level y ys level = rw level refl

  place_right : (l : List T) (x : T) (m : List T) → IsSplit side (l ++ x ∷ m) → side x ≡ Less → lower_bound side (l ++ x ∷ m) ≡ length l + 1 + lower_bound side m
  place_right [] x m up less = place_cons_less x m less ∙ omega arith
  place_right (y ∷ l) x m up less =
      elim (is_lt (side y)) as (λ t. is_lt (side y) ≡ t → cond t (1 + lower_bound side (l ++ x ∷ m)) 0 ≡ suc (length l) + 1 + lower_bound side m) [
        | true ↦ λ e. omega (arith, place_right l x m up.2 less)
        | false ↦ λ e. absurd (let not_less : is_lt (side x) ≡ false = all_middle _ l x m (up.0 e) in let lower : is_lt (side x) ≡ true = ap is_lt less in cc)
      ] refl

  place_left : (l : List T) (x : T) (m : List T) → is_lt (side x) ≡ false → lower_bound side (l ++ x ∷ m) ≡ lower_bound side l
  place_left [] x m level = place_cons_level x m level
  place_left (y ∷ l) x m level =
      ap (λ n. cond (is_lt (side y)) (1 + n) 0) (place_left l x m level)

  element_right : (l : List T) (x : T) (m : List T) (i : ℕ) → equal_at side (l ++ x ∷ m) (length l + 1 + i) ≡ equal_at side m i
  element_right [] x m i = ap (λ k. equal_at side (x ∷ m) k) (let e : 0 + 1 + i ≡ suc i = omega arith in e)
  element_right (y ∷ l) x m i =
      ap (λ k. equal_at side (y ∷ (l ++ x ∷ m)) k) (let e : suc (length l) + 1 + i ≡ suc (length l + 1 + i) = omega arith in e) ∙ element_right l x m i

  element_cons : (r : Ordering) (y : T) (l : List T) (x : T) (m : List T) → side y ≡ r → IsSplit side (y ∷ (l ++ x ∷ m)) → side x ≡ Equal → equal_at side (l ++ x ∷ m) (lower_bound side l) ≡ option_or (equal_at side l (lower_bound side l)) (Some x) → equal_at side (y ∷ (l ++ x ∷ m)) (lower_bound side (y ∷ l)) ≡ option_or (equal_at side (y ∷ l) (lower_bound side (y ∷ l))) (Some x)
  element_cons Less y l x m is up same rest =
      ap (λ k. equal_at side (y ∷ (l ++ x ∷ m)) k) (place_cons_less y l is) ∙ rest ∙ ap (λ k. option_or (equal_at side (y ∷ l) k) (Some x)) (sym (place_cons_less y l is))
  element_cons Equal y l x m is up same rest =
      let here : equal_at side (y ∷ l) zero ≡ Some y = ap (λ o. cond (is_eq o) (Some y) None) is in
      ap (λ k. equal_at side (y ∷ (l ++ x ∷ m)) k) (place_cons_level y l (ap is_lt is)) ∙ here ∙ ap (λ e. option_or e (Some x)) (sym here) ∙ ap (λ k. option_or (equal_at side (y ∷ l) k) (Some x)) (sym (place_cons_level y l (ap is_lt is)))
  element_cons Greater y l x m is up same rest = absurd (let more : side x ≡ Greater = all_middle _ l x m (up.1 is) in cc)

  element_middle : (l : List T) (x : T) (m : List T) → IsSplit side (l ++ x ∷ m) → side x ≡ Equal → equal_at side (l ++ x ∷ m) (lower_bound side l) ≡ option_or (equal_at side l (lower_bound side l)) (Some x)
  element_middle [] x m up same = ap (λ o. cond (is_eq o) (Some x) None) same
  element_middle (y ∷ l) x m up same = element_cons (side y) y l x m refl up same (element_middle l x m up.2 same)

  element_left : (l : List T) (x : T) (m : List T) → side x ≡ Greater → equal_at side (l ++ x ∷ m) (lower_bound side l) ≡ equal_at side l (lower_bound side l)
  element_left [] x m more = ap (λ o. cond (is_eq o) (Some x) None) more
  element_left (y ∷ l) x m more =
      elim (is_lt (side y)) as (λ t. is_lt (side y) ≡ t → equal_at side (y ∷ (l ++ x ∷ m)) (cond t (1 + lower_bound side l) 0) ≡ equal_at side (y ∷ l) (cond t (1 + lower_bound side l) 0)) [
        | true ↦ λ e. (let up : 1 + lower_bound side l ≡ suc (lower_bound side l) = omega arith in subst (λ k. equal_at side (y ∷ (l ++ x ∷ m)) k ≡ equal_at side (y ∷ l) k) (sym up) (element_left l x m more))
        | false ↦ λ e. refl
      ] refl

  -- there is an equal element at a place exactly where one is found there
  is_some_at : (xs : List T) (i : ℕ) → is_equal_at side xs i ≡ is_some (equal_at side xs i)
  is_some_at [] i = refl
  is_some_at (x ∷ xs) zero =
      elim (is_eq (side x)) as (λ t. t ≡ is_some (cond t (Some x) None)) [
        | true ↦ refl
        | false ↦ refl
      ]
  is_some_at (x ∷ xs) (suc i) = is_some_at xs i

  pub found_by : (xs : List T) (i : ℕ) (e : Option T) → e ≡ equal_at side xs i → is_some e ≡ is_equal_at side xs i
  found_by xs i e is = ap (λ o. is_some o) is ∙ sym (is_some_at xs i)

  level_right : (l : List T) (x : T) (m : List T) (i : ℕ) → is_equal_at side (l ++ x ∷ m) (length l + 1 + i) ≡ is_equal_at side m i
  level_right l x m i =
      is_some_at (l ++ x ∷ m) (length l + 1 + i) ∙ found_by m i (equal_at side (l ++ x ∷ m) (length l + 1 + i)) (element_right l x m i)

  some_or : (e : Option T) (x : T) → is_some (option_or e (Some x)) ≡ true
  some_or None x = refl
  some_or (Some y) x = refl

  level_middle : (l : List T) (x : T) (m : List T) → IsSplit side (l ++ x ∷ m) → side x ≡ Equal → is_equal_at side (l ++ x ∷ m) (lower_bound side l) ≡ true
  level_middle l x m up same =
      is_some_at (l ++ x ∷ m) (lower_bound side l) ∙ ap (λ o. is_some o) (element_middle l x m up same) ∙ some_or (equal_at side l (lower_bound side l)) x

  level_left : (l : List T) (x : T) (m : List T) → side x ≡ Greater → is_equal_at side (l ++ x ∷ m) (lower_bound side l) ≡ is_equal_at side l (lower_bound side l)
  level_left l x m more =
      is_some_at (l ++ x ∷ m) (lower_bound side l) ∙ found_by l (lower_bound side l) (equal_at side (l ++ x ∷ m) (lower_bound side l)) (element_left l x m more)

-- the answer for a node, from the answer for one side
module _ {T : Type 0} (side : T → Ordering) (items l : List T) (x : T) (m : List T) (is : items ≡ l ++ x ∷ m) where
  whole : SidesAscend side items → IsSplit side (l ++ x ∷ m)
  whole up = subst (λ (t : List T). IsSplit side t) is up.split

  front : SidesAscend side items → SidesAscend side l
  front up = record { split = split_front side l (x ∷ m) (whole up) }

  back : SidesAscend side items → SidesAscend side m
  back up = record { split = split_back side l x m (whole up) }

  pub less_place : (before place : ℕ) → before ≡ length l → side x ≡ Less → (SidesAscend side m → place ≡ lower_bound side m) → SidesAscend side items → before + 1 + place ≡ lower_bound side items
  less_place before place b less child up =
      let below : place ≡ lower_bound side m = child (back up) in
      let there : lower_bound side items ≡ length l + 1 + lower_bound side m = ap (λ (t : List T). lower_bound side t) is ∙ place_right side l x m (whole up) less in
      omega arith

  pub less_found : (before place : ℕ) (found : Bool) → before ≡ length l → (SidesAscend side m → found ≡ is_equal_at side m place) → SidesAscend side items → found ≡ is_equal_at side items (before + 1 + place)
  less_found before place found b child up =
      child (back up) ∙ sym (level_right side l x m place) ∙ ap (λ (i : ℕ). is_equal_at side (l ++ x ∷ m) (i + 1 + place)) (sym b) ∙ ap (λ (t : List T). is_equal_at side t (before + 1 + place)) (sym is)

  pub left_place : (place : ℕ) → is_lt (side x) ≡ false → (SidesAscend side l → place ≡ lower_bound side l) → SidesAscend side items → place ≡ lower_bound side items
  left_place place level child up =
      child (front up) ∙ sym (place_left side l x m level) ∙ ap (λ (t : List T). lower_bound side t) (sym is)

  pub equal_found : (place : ℕ) → side x ≡ Equal → (SidesAscend side l → place ≡ lower_bound side l) → SidesAscend side items → true ≡ is_equal_at side items place
  equal_found place same child up =
      sym (level_middle side l x m (whole up) same) ∙ ap (λ (i : ℕ). is_equal_at side (l ++ x ∷ m) i) (sym (child (front up))) ∙ ap (λ (t : List T). is_equal_at side t place) (sym is)

  pub greater_found : (place : ℕ) (found : Bool) → side x ≡ Greater → (SidesAscend side l → place ≡ lower_bound side l) → (SidesAscend side l → found ≡ is_equal_at side l place) → SidesAscend side items → found ≡ is_equal_at side items place
  greater_found place found more child seen up =
      let below : place ≡ lower_bound side l = child (front up) in
      seen (front up) ∙ ap (λ (i : ℕ). is_equal_at side l i) below ∙ sym (level_left side l x m more) ∙ ap (λ (i : ℕ). is_equal_at side (l ++ x ∷ m) i) (sym below) ∙ ap (λ (t : List T). is_equal_at side t place) (sym is)

  pub less_element : (before place : ℕ) (e : Option T) → before ≡ length l → (SidesAscend side m → e ≡ equal_at side m place) → SidesAscend side items → e ≡ equal_at side items (before + 1 + place)
  less_element before place e b child up =
      child (back up) ∙ sym (element_right side l x m place) ∙ ap (λ (i : ℕ). equal_at side (l ++ x ∷ m) (i + 1 + place)) (sym b) ∙ ap (λ (t : List T). equal_at side t (before + 1 + place)) (sym is)

  pub equal_element : (place : ℕ) (e : Option T) → side x ≡ Equal → (SidesAscend side l → place ≡ lower_bound side l) → (SidesAscend side l → e ≡ equal_at side l place) → SidesAscend side items → option_or e (Some x) ≡ equal_at side items place
  equal_element place e same child seen up =
      let below : place ≡ lower_bound side l = child (front up) in
      ap (λ (o : Option T). option_or o (Some x)) (seen (front up) ∙ ap (λ (i : ℕ). equal_at side l i) below) ∙ sym (element_middle side l x m (whole up) same) ∙ ap (λ (i : ℕ). equal_at side (l ++ x ∷ m) i) (sym below) ∙ ap (λ (t : List T). equal_at side t place) (sym is)

  pub greater_element : (place : ℕ) (e : Option T) → side x ≡ Greater → (SidesAscend side l → place ≡ lower_bound side l) → (SidesAscend side l → e ≡ equal_at side l place) → SidesAscend side items → e ≡ equal_at side items place
  greater_element place e more child seen up =
      let below : place ≡ lower_bound side l = child (front up) in
      seen (front up) ∙ ap (λ (i : ℕ). equal_at side l i) below ∙ sym (element_left side l x m more) ∙ ap (λ (i : ℕ). equal_at side (l ++ x ∷ m) i) (sym below) ∙ ap (λ (t : List T). equal_at side t place) (sym is)
