-- What a contract sees of a pool.
use Rattle.std.specs.Prelude.{◌≡◌, ℕ, ◌+◌, ◌*◌, ◌<◌, ◌≤◌, ◌==◌, List, length, slice_index_or, slice_set, cond, Option, Some, None, replicate}
use Rattle.std.specs.List.{prefix_len}
use Rattle.stack_pool.specs.declared.TheConstants.{PLACES, STRIDE, MOST_TAKINGS}
use Rattle.stack_pool.specs.declared.fault.Owner.{Owner}
use Rattle.stack_pool.specs.declared.fault.PoolFault.{PoolFault}
use Rattle.stack_pool.specs.declared.fault.PoolFault.TheVariants.{PoolFull, NoNumber}
use Rattle.stack_pool.specs.declared.place.Place.{Place}
use Rattle.stack_pool.specs.declared.place.Place.TheVariants.{Free, Owned}
use Rattle.stack_pool.specs.Places.{owner_of, content_in, is_owned, refilled}

-- its places, and how often a place was taken
pub record Pool (S : Type 0) : Type 0 where
  pub places : List (Place S)
  pub takings : ℕ

module _ {S : Type 0} where
  abbrev pub new_pool : Pool S
  new_pool = record { places = replicate PLACES Free; takings = 0 }

  -- the number that owns the place, if the place exists and one does
  abbrev pub holder_of : Pool S → ℕ → Option ℕ
  holder_of p place = owner_of (slice_index_or p.places place Free)

  abbrev pub content_of : Pool S → ℕ → Option S
  content_of p place = content_in (slice_index_or p.places place Free)

  -- the pool with another content at the place
  abbrev pub with_content : Pool S → ℕ → S → Pool S
  with_content p place content =
      record p {
        places = slice_set p.places place (refilled
            (slice_index_or p.places place Free) content);
      }

  abbrev pub freed : Pool S → ℕ → Pool S
  freed p place = record p { places = slice_set p.places place Free }

  -- the lowest place that is nobody's
  abbrev pub first_free : Pool S → ℕ
  first_free p = prefix_len is_owned p.places

  -- why a taking is refused: no number is left, or no place
  abbrev pub refusal : Pool S → Option PoolFault
  refusal p =
      cond (p.takings == MOST_TAKINGS) (Some NoNumber)
      (cond (first_free p == PLACES) (Some PoolFull)
      None)

  -- the pool after one more taking, by which the place is the owner's
  abbrev pub filled : Pool S → Owner → S → Pool S
  filled p owner content = record {
    places = slice_set p.places owner.place (Owned owner.number content);
    takings = p.takings + 1;
  }

  -- a taking gives the lowest free place, with a number that no taking had before
  abbrev pub IsTakenFrom : Pool S → Pool S → S → Owner → Type 0
  IsTakenFrom p q content owner =
      (refusal p ≡ None) × (owner.number ≡ STRIDE * (p.takings + 1))
      × (owner.place ≡ first_free p) × (q ≡ filled p owner content)

  -- the number that owns the place is that of a taking, the j-th
  abbrev pub OwnerCame : ℕ → Place S → Type 0
  OwnerCame takings Free = Unit {0}
  OwnerCame takings (Owned number content) = (j : ℕ) × (number ≡ STRIDE * j) × (0 < j)
      × (j ≤ takings)

  pub record IsPool (places : List (Place S)) (takings : ℕ) : Type 0 where
    pub count : length places ≡ PLACES
    pub few : takings ≤ MOST_TAKINGS
    pub came : (i : ℕ) → OwnerCame takings (slice_index_or places i Free)
