-- What stands at the place that a search finds.
use Rattle.std.proofs.Common.{◌≡◌, ℕ, ◌+◌, ◌<◌, ◌≤◌, Bool, true, false, not, cond, List, [], ◌∷◌, length, map, arith, ap, sym, ◌∙◌, refl, Option, Some, None, slice_get, get_or, nat_lt, Bor}
use Rattle.std.specs.Prelude.{find, option_map, is_some, IfSome}
use Rattle.std.specs.Option.{option_copied}
use Rattle.std.specs.List.{position, position_or_len, zip}
use Rattle.std.proofs.lemmas.List.Folds.{find_at}
use Rattle.std.proofs.lemmas.Option.{slice_get-map, slice_get_past, slice_get_read}
use Rattle.imm_base.specs.Maps.{Entries}

module _ {T : Type 0} (p : T → Bool) (xs : List T) where
  position_is : (i : ℕ) → position p xs ≡ Some i → position_or_len p xs ≡ i
  position_is i e = elim (nat_lt (position_or_len p xs) (length xs)) as (λ t. cond t (Some (position_or_len p xs)) None ≡ Some i → position_or_len p xs ≡ i) [
    | true ↦ λ f. cc
    | false ↦ λ f. absurd cc
  ] e

  position_past : position p xs ≡ None → length xs ≤ position_or_len p xs
  position_past e = elim (nat_lt (position_or_len p xs) (length xs)) as (λ t. nat_lt (position_or_len p xs) (length xs) ≡ t → cond t (Some (position_or_len p xs)) None ≡ None → length xs ≤ position_or_len p xs) [
    | true ↦ λ _ f. absurd cc
    | false ↦ λ past f. grind arith
  ] refl e

  pub found : (i : ℕ) → position p xs ≡ Some i → slice_get xs i ≡ find p xs
  found i e = ap (slice_get xs) (sym (position_is i e)) ∙ sym (find_at p xs)

  pub not_found : position p xs ≡ None → None ≡ find p xs
  not_found e = sym (find_at p xs ∙ slice_get_past xs (position_or_len p xs) (position_past e))

-- what `get` answers
pub got : {T : Type 0} (xs : List T) (i : ℕ) (r : Option (Bor T)) → is_some r ≡ nat_lt i (length xs) → IfSome r (λ x. x.now ≡ get_or xs i x.now) → option_copied r ≡ slice_get xs i
got xs i None inside is = (let past : length xs ≤ i = grind arith in sym (slice_get_past xs i past))
got xs i (Some x) inside is = (let below : i < length xs = grind arith in sym (slice_get_read xs (length xs) i x.now refl below is))

module _ {K V : Type 0} (p : K → Bool) where
  pub key_found : (m : Entries K V) → find p (map (λ e. e.0) m) ≡ option_map (λ e. e.0) (find (λ e. p e.0) m)
  key_found [] = refl
  key_found (e ∷ m) = elim (p e.0) as (λ t. cond t (Some e.0) (find p (map (λ d. d.0) m)) ≡ option_map (λ d. d.0) (cond t (Some e) (find (λ d. p d.0) m))) [ true ↦ refl | false ↦ key_found m ]

  place_of_key : (m : Entries K V) → position_or_len p (map (λ e. e.0) m) ≡ position_or_len (λ e. p e.0) m
  place_of_key [] = refl
  place_of_key (e ∷ m) = elim (p e.0) as (λ t. cond (not t) (1 + position_or_len p (map (λ d. d.0) m)) 0 ≡ cond (not t) (1 + position_or_len (λ d. p d.0) m) 0) [ true ↦ refl | false ↦ ap (λ (n : ℕ). 1 + n) (place_of_key m) ]

  -- the value beside the key
  value_found_at : (m : Entries K V) → slice_get (map (λ e. e.1) m) (position_or_len p (map (λ e. e.0) m)) ≡ option_map (λ e. e.1) (find (λ e. p e.0) m)
  value_found_at m =
      ap (slice_get (map (λ e. e.1) m)) (place_of_key m) ∙ slice_get-map (λ e. e.1) m (position_or_len (λ e. p e.0) m) ∙ ap (option_map (λ e. e.1)) (sym (find_at (λ e. p e.0) m))

  pub value_found : (m : Entries K V) (i : ℕ) → position p (map (λ e. e.0) m) ≡ Some i → slice_get (map (λ e. e.1) m) i ≡ option_map (λ e. e.1) (find (λ e. p e.0) m)
  value_found m i e = ap (slice_get (map (λ d. d.1) m)) (sym (position_is p (map (λ d. d.0) m) i e)) ∙ value_found_at m

  none_mapped : (o : Option (K × V)) → None ≡ option_map (λ e. e.0) o → None ≡ option_map (λ e. e.1) o
  none_mapped None e = refl
  none_mapped (Some x) e = absurd cc

  pub value_not_found : (m : Entries K V) → position p (map (λ e. e.0) m) ≡ None → None ≡ option_map (λ e. e.1) (find (λ e. p e.0) m)
  value_not_found m e = none_mapped (find (λ d. p d.0) m) (not_found p (map (λ d. d.0) m) e ∙ key_found m)

pub zip_split : {K V : Type 0} (m : Entries K V) → zip (map (λ e. e.0) m) (map (λ e. e.1) m) ≡ m
zip_split [] = refl
zip_split (e ∷ m) = ap (λ t. e ∷ t) (zip_split m)
