-- The calls on a pool are those of the plain model.
use Rattle.std.proofs.Common.{◌≡◌, ◌≢◌, ℕ, zero, suc, ◌+◌, ◌*◌, ◌<◌, Bool, true, false, cond, List, [], ◌∷◌, length, map, refl, ap, sym, ◌∙◌, Some, None, Option, Ok, arith, rules}
use mathlib.Core.Logic.{dite}
use native.Mathlib.Decide.{ℕ_discrete}
use Rattle.std.specs.Prelude.{slice_get, slice_set, slice_index_or, ◌==◌, is_none, position, option_map, if◌then◌else◌}
use Rattle.std.specs.List.{prefix_len}
use Rattle.std.proofs.lemmas.List.{map-set}
use Rattle.stack_pool.specs.declared.TheConstants.{PLACES, MOST_TAKINGS}
use Rattle.stack_pool.specs.declared.fault.Owner.{Owner}
use Rattle.stack_pool.specs.declared.fault.PoolFault.TheVariants as faults
use Rattle.stack_pool.specs.declared.place.Place.{Place}
use Rattle.stack_pool.specs.declared.place.Place.TheVariants.{Free, Owned}
use Rattle.stack_pool.specs.Places.{owner_of, content_in, is_owned, refilled}
use Rattle.stack_pool.specs.Pools.{Pool, holder_of, content_of, with_content, freed, refusal, first_free, IsTakenFrom}
use Rattle.plain_model.specs.Places as plain
use Rattle.plain_model.specs.Places.{content_at, with_owner, without_owner, take_place, lowest_free}
use Rattle.enumerators.specs.PlainPools.{plain_place, plain_pool}
use Rattle.plain_model.specs.declared.plain.Elem.{Elem}
use Rattle.enumerators.specs.declared.walk.Walk.{Walk}
use Rattle.enumerators.specs.declared.walk.WalkFault.{WalkFault}
use Rattle.enumerators.specs.declared.walk.WalkFault.TheVariants.{Disposed, Changed, NoCurrent}
use Rattle.enumerators.specs.Walking.{fault_in, unchanged_rest, current_elem}

-- a holder that is not another one
pub owner_is : (holder : Option ℕ) (number : ℕ) → (holder ≢ Some number → false ≡ true) → holder ≡ Some number
owner_is None number not_other = absurd (let f : false ≡ true = not_other (λ e. cc) in cc)
owner_is (Some n) number not_other = dite (ℕ_discrete n number) (λ same. ap (λ (m : ℕ). Some m) same) (λ other. absurd (let f : false ≡ true = not_other (λ e. other cc) in cc))

module _ {S : Type 0} where
  -- what a number has at its own place
  own_in : (ps : List (Place S)) (place number : ℕ) (x : S) → owner_of (slice_index_or ps place Free) ≡ Some number → content_in (slice_index_or ps place Free) ≡ Some x
      → content_at place number (map plain_place ps) ≡ Some x
  own_in [] zero number x owner content = cc
  own_in [] (suc place) number x owner content = cc
  own_in (Free ∷ ps) zero number x owner content = cc
  own_in (Owned n y ∷ ps) zero number x owner content =
      let same : n ≡ number = cc in let here : y ≡ x = cc in
      ap (λ (m : ℕ). if m == number then Some y else None) same ∙ (let yes : (number == number) ≡ true = search rules in rw yes (ap (λ (z : S). Some z) here))
  own_in (p ∷ ps) (suc place) number x owner content = own_in ps place number x owner content

  pub own_at : (p : Pool S) (place number : ℕ) (x : S) → holder_of p place ≡ Some number → content_of p place ≡ Some x → content_at place number (plain_pool p).places ≡ Some x
  own_at p place number x owner content = own_in p.places place number x owner content

  other_in : (ps : List (Place S)) (place number : ℕ) → (owner_of (slice_index_or ps place Free) ≡ Some number → ⊥) → content_at place number (map plain_place ps) ≡ None
  other_in [] zero number other = refl
  other_in [] (suc place) number other = refl
  other_in (Free ∷ ps) zero number other = refl
  other_in (Owned n y ∷ ps) zero number other = elim (n == number) as (λ t. (n == number) ≡ t → (if t then Some y else None) ≡ None) [
    | true ↦ λ e. absurd (other (ap (λ (m : ℕ). Some m) (let one : n ≡ number = grind (arith, e) in one)))
    | false ↦ λ _. refl
  ] refl
  other_in (p ∷ ps) (suc place) number other = other_in ps place number other

  pub other_at : (p : Pool S) (place number : ℕ) → (holder_of p place ≡ Some number → ⊥) → content_at place number (plain_pool p).places ≡ None
  other_at p place number other = other_in p.places place number other

  -- another content at an owned place
  refilled_in : (ps : List (Place S)) (place number : ℕ) (x : S) → owner_of (slice_index_or ps place Free) ≡ Some number
      → map plain_place (slice_set ps place (refilled (slice_index_or ps place Free) x)) ≡ with_owner place number x (map plain_place ps)
  refilled_in [] zero number x owner = cc
  refilled_in [] (suc place) number x owner = cc
  refilled_in (Free ∷ ps) zero number x owner = cc
  refilled_in (Owned n y ∷ ps) zero number x owner = let same : n ≡ number = cc in ap (λ (m : ℕ). Some (record { number = m; content = x }) ∷ map plain_place ps) same
  refilled_in (p ∷ ps) (suc place) number x owner = ap (λ t. plain_place p ∷ t) (refilled_in ps place number x owner)

  pub turned_pool : (p : Pool S) (place number : ℕ) (x y : S) → holder_of p place ≡ Some number → x ≡ y
      → plain_pool (with_content p place x) ≡ record (plain_pool p) { places = with_owner place number y (plain_pool p).places }
  turned_pool p place number x y owner same =
      ap (λ ps. record { places = ps; takings = p.takings }) (refilled_in p.places place number x owner)
      ∙ ap (λ (z : S). record { places = with_owner place number z (map plain_place p.places); takings = p.takings }) same

  same_in : (ps : List (Place S)) (place : ℕ) (x : S) → content_in (slice_index_or ps place Free) ≡ Some x → slice_set ps place (refilled (slice_index_or ps place Free) x) ≡ ps
  same_in [] zero x content = cc
  same_in [] (suc place) x content = cc
  same_in (Free ∷ ps) zero x content = cc
  same_in (Owned n y ∷ ps) zero x content = let same : x ≡ y = cc in ap (λ (z : S). Owned n z ∷ ps) same
  same_in (p ∷ ps) (suc place) x content = ap (λ t. p ∷ t) (same_in ps place x content)

  -- a content that was only read
  pub same_pool : (p : Pool S) (place : ℕ) (x : S) → content_of p place ≡ Some x → with_content p place x ≡ p
  same_pool p place x content = ap (λ ps. record { places = ps; takings = p.takings }) (same_in p.places place x content)

  pub freed_pool : (p : Pool S) (place : ℕ) → plain_pool (freed p place) ≡ record (plain_pool p) { places = without_owner place (plain_pool p).places }
  freed_pool p place = ap (λ ps. record { places = ps; takings = p.takings }) (map-set plain_place p.places place Free)

-- ---- a walk

module _ (p : Pool (plain.Rest Elem)) (w : Walk) where
  pub disposed_at : (now : ℕ) → (holder_of p w.owner.place ≡ Some w.owner.number → ⊥) → fault_in (unchanged_rest p w now) ≡ Some Disposed
  disposed_at now other = ap (λ r. fault_in (plain.rest_if_unchanged w.made now r)) (other_at p w.owner.place w.owner.number other)

  pub no_rest : (holder_of p w.owner.place ≡ Some w.owner.number → ⊥) → fault_in (current_elem p w) ≡ Some Disposed
  no_rest other = ap (λ r. fault_in (plain.current_of r)) (other_at p w.owner.place w.owner.number other)

  module _ (rest : plain.Rest Elem) (owner : holder_of p w.owner.place ≡ Some w.owner.number) (content : content_of p w.owner.place ≡ Some rest) where
    pub unchanged_at : (now : ℕ) → w.made ≡ now → unchanged_rest p w now ≡ Ok rest
    unchanged_at now same = ap (λ r. plain.rest_if_unchanged w.made now r) (own_at p w.owner.place w.owner.number rest owner content)
        ∙ (let yes : (w.made == now) ≡ true = grind (arith, same) in rw yes refl)

    pub changed_at : (now : ℕ) (fault : WalkFault) → w.made ≢ now → fault ≡ Changed w.made now → fault_in (unchanged_rest p w now) ≡ Some fault
    changed_at now fault other is = ap (λ r. fault_in (plain.rest_if_unchanged w.made now r)) (own_at p w.owner.place w.owner.number rest owner content)
        ∙ (let no : (w.made == now) ≡ false = grind (arith, other) in rw no (ap (λ (f : WalkFault). Some f) (sym is)))

    pub current_at : (element : Elem) → rest.current ≡ Some element → current_elem p w ≡ Ok element
    current_at element stands = ap (λ r. plain.current_of r) (own_at p w.owner.place w.owner.number rest owner content) ∙ rw stands refl

    pub no_current_at : rest.current ≡ None → fault_in (current_elem p w) ≡ Some NoCurrent
    no_current_at stands = ap (λ r. fault_in (plain.current_of r)) (own_at p w.owner.place w.owner.number rest owner content) ∙ rw stands refl

pub ruleset plain_calls = (own_at, other_at, turned_pool, freed_pool, disposed_at, no_rest, unchanged_at, changed_at, current_at, no_current_at)
