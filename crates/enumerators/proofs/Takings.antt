-- A taking is that of the plain model.
use Rattle.std.proofs.Common.{◌≡◌, ◌≢◌, ℕ, ◌+◌, ◌*◌, ◌<◌, ◌≤◌, Bool, true, false, cond, List, [], ◌∷◌, length, map, refl, ap, sym, ◌∙◌, Some, None, Option, arith, rules, nat_lt, not}
use Rattle.std.specs.Prelude.{slice_set, ◌==◌, is_none, option_map}
use Rattle.std.specs.List.{prefix_len}
use Rattle.std.proofs.lemmas.List.{map-set, length-map}
use Rattle.std.proofs.lemmas.List.Sums.{prefix_len-le-length}
use Rattle.stack_pool.specs.declared.TheConstants.{PLACES, MOST_TAKINGS}
use Rattle.stack_pool.specs.declared.fault.Owner.{Owner}
use Rattle.stack_pool.specs.declared.fault.PoolFault.{PoolFault}
use Rattle.stack_pool.specs.declared.fault.PoolFault.TheVariants as faults
use Rattle.stack_pool.specs.declared.place.Place.{Place}
use Rattle.stack_pool.specs.declared.place.Place.TheVariants.{Free, Owned}
use Rattle.stack_pool.specs.Places.{is_owned}
use Rattle.stack_pool.specs.Pools.{Pool, refusal, first_free, IsTakenFrom}
use Rattle.plain_model.specs.Places as plain
use Rattle.plain_model.specs.Places.{take_place, lowest_free, with_owner}
use Rattle.plain_model.specs.declared.plain.Elem.{Elem}
use Rattle.enumerators.specs.PlainPools.{plain_place, plain_pool}
use Rattle.enumerators.specs.declared.walk.WalkFault.TheVariants.{PoolFull, NoNumber}
use Rattle.enumerators.specs.Walking.{start_fault, walk_fault}

-- where it is refused
told : (a b : Bool) → cond a (Some NoNumber) (cond b (Some PoolFull) None) ≡ option_map walk_fault (cond a (Some faults.NoNumber) (cond b (Some faults.PoolFull) None))
told true b = refl
told false true = refl
told false false = refl

none_refused : {X : Type 0} (a b : Bool) (x y : X) → cond a (Some x) (cond b (Some y) None) ≡ None → b ≡ false
none_refused true b x y none = cc
none_refused false true x y none = cc
none_refused false false x y none = refl

module _ {S : Type 0} where
  free_in : (ps : List (Place S)) → prefix_len (λ o. not (is_none o)) (map plain_place ps) ≡ prefix_len is_owned ps
  free_in [] = refl
  free_in (Free ∷ ps) = refl
  free_in (Owned n y ∷ ps) = ap (λ (k : ℕ). 1 + k) (free_in ps)

  lowest_is : (p : Pool S) → length p.places ≡ PLACES → lowest_free (plain_pool p).places ≡ cond (nat_lt (first_free p) PLACES) (Some (first_free p)) None
  lowest_is p count = rw (free_in p.places, length-map p.places plain_place, count) refl

  no_place : (p : Pool S) → length p.places ≡ PLACES → is_none (lowest_free (plain_pool p).places) ≡ (first_free p == PLACES)
  no_place p count =
      let near : first_free p ≤ length p.places = prefix_len-le-length is_owned p.places in
      ap is_none (lowest_is p count) ∙ grind (arith, near, count)

  pub taken : (p q : Pool S) (content : S) (owner : Owner) → length p.places ≡ PLACES → IsTakenFrom p q content owner
      → take_place content (plain_pool p) ≡ Some (record { place = owner.place; number = owner.number; pool = plain_pool q })
  taken p q content owner count is =
      let room : (first_free p == PLACES) ≡ false = none_refused (p.takings == MOST_TAKINGS) (first_free p == PLACES) faults.NoNumber faults.PoolFull is.0 in
      let near : first_free p ≤ length p.places = prefix_len-le-length is_owned p.places in
      let inside : nat_lt (first_free p) PLACES ≡ true = grind (arith, near, count, room) in
      let lowest : lowest_free (plain_pool p).places ≡ Some owner.place = lowest_is p count ∙ rw (inside, is.2) refl in
      let number : plain.number_of 0 (p.takings + 1) ≡ owner.number = omega (arith, is.1) in
      let filled : map plain_place (slice_set p.places owner.place (Owned owner.number content)) ≡ with_owner owner.place owner.number content (map plain_place p.places) = map-set plain_place p.places owner.place (Owned owner.number content) in
      ap (λ o. option_map (plain.taking_at content (plain_pool p)) o) lowest
      ∙ ap (λ (n : ℕ). Some (record { place = owner.place; number = n; pool = record { places = with_owner owner.place n content (map plain_place p.places); takings = p.takings + 1 } })) number
      ∙ ap (λ ps. Some (record { place = owner.place; number = owner.number; pool = record { places = ps; takings = p.takings + 1 } })) (sym filled)
      ∙ ap (λ (r : Pool S). Some (record { place = owner.place; number = owner.number; pool = plain_pool r })) (sym is.3)

fault_is : (p : Pool (plain.Rest Elem)) → length p.places ≡ PLACES → start_fault p ≡ option_map walk_fault (refusal p)
fault_is p count =
    ap (λ b. cond (p.takings == MOST_TAKINGS) (Some NoNumber) (cond b (Some PoolFull) None)) (no_place p count)
    ∙ told (p.takings == MOST_TAKINGS) (first_free p == PLACES)

pub may_start : (p : Pool (plain.Rest Elem)) → length p.places ≡ PLACES → refusal p ≡ None → start_fault p ≡ None
may_start p count none = fault_is p count ∙ ap (λ o. option_map walk_fault o) none

pub refused : (p : Pool (plain.Rest Elem)) (fault : PoolFault) → length p.places ≡ PLACES → refusal p ≡ Some fault → start_fault p ≡ Some (walk_fault fault)
refused p fault count some = fault_is p count ∙ ap (λ o. option_map walk_fault o) some

pub ruleset plain_takings = (taken, may_start, refused)
