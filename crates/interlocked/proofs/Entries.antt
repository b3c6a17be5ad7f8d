-- Entries that are kept with the last one first.
use Rattle.std.proofs.Common.{◌≡◌, ℕ, zero, suc, ◌+◌, ◌-◌, ◌<◌, ◌≤◌, List, [], ◌∷◌, ◌++◌, length, map, reverse, get_or, sym, refl, ap, ◌∙◌, Option, Some, None, option_map, slice_get, arith}
use Rattle.std.proofs.lemmas.List.{length-reverse, length-map, reverse-append, get_or-reverse}
use Rattle.std.proofs.lemmas.Option.{slice_get_past, slice_get-get_or, slice_get-map}
use Rattle.std.specs.Option.{option_copied}
use denote.Ref.{Bor}
use Rattle.plain_model.specs.declared.commands.PlainCall.{PlainCall}
use Rattle.interlocked.specs.declared.entry.Entry.{Entry}
use Rattle.interlocked.specs.Entries.{entry_at}

pub count_of : {S T : Type 0} (f : S → T) (xs : List S) → length (reverse (map f xs)) ≡ length xs
count_of f xs = length-reverse (map f xs) ∙ length-map xs f

pub pushed : {S T : Type 0} (f : S → T) (xs ys : List S) (x : S) → ys ≡ x ∷ xs → reverse (map f ys) ≡ reverse (map f xs) ++ f x ∷ []
pushed {T = T} f xs ys x is = ap (λ (l : List _). reverse (map f l)) is ∙ reverse-append (f x ∷ []) (map f xs)

some_of : {S : Type 0} (xs : List S) (i : ℕ) → i < length xs → (x : S) × (get_or xs i x ≡ x)
some_of [] i near = absurd (omega arith)
some_of (x ∷ xs) zero near = (x, refl)
some_of (x ∷ xs) (suc i) near = some_of xs i (omega arith)

-- what a reference points to, mapped
pub copied_map : {S T : Type 0} (f : S → T) (o : Option (Bor S)) → option_map (λ (e : Bor S). f e.now) o ≡ option_map f (option_copied o)
copied_map f None = refl
copied_map f (Some e) = refl

module _ {S : Type 0} (f : S → Entry PlainCall) (xs : List S) where
  abbrev es : List (Entry PlainCall)
  es = reverse (map f xs)

  -- the entry that made a position stands so far from the front
  pub found_at : (position : ℕ) → 0 < position → position ≤ length xs → option_map f (slice_get xs (length xs - position)) ≡ entry_at position es
  found_at zero some_position near = absurd (omega arith)
  found_at (suc k) some_position near = let many = count_of f xs in let long = length-map xs f in
      let i : ℕ = length xs - suc k in let x : S = (some_of xs i (omega arith)).0 in let small : i < length xs = omega arith in let below : k < length es = omega arith in let under : k < length (map f xs) = omega arith in
      let place : length (map f xs) - 1 - k ≡ i = omega arith in
      sym (slice_get-map f xs i) ∙ (slice_get-get_or (map f xs) i (f x) (omega arith)
      ∙ (ap (λ (j : ℕ). Some (get_or (map f xs) j (f x))) (sym place) ∙ (ap (λ (e : Entry PlainCall). Some e) (sym (get_or-reverse (map f xs) k (f x) under)) ∙ sym (slice_get-get_or es k (f x) below))))

  pub none_at : (position : ℕ) → length xs < position → None ≡ entry_at position es
  none_at zero far = absurd (omega arith)
  none_at (suc k) far = let many = count_of f xs in sym (slice_get_past es k (omega arith))
