-- What a walk has at its place, and why a call on it is refused.
use Rattle.std.specs.Prelude.{◌≡◌, ℕ, ◌==◌, cond, Option, Some, None, is_none, Result, Ok, Err}
use Rattle.stack_pool.specs.declared.TheConstants.{MOST_TAKINGS}
use Rattle.stack_pool.specs.Pools.{Pool}
use Rattle.stack_pool.specs.declared.fault.PoolFault.{PoolFault}
use Rattle.stack_pool.specs.declared.fault.PoolFault.TheVariants as pool
use Rattle.plain_model.specs.declared.plain.Elem.{Elem}
use Rattle.plain_model.specs.Places as plain
use Rattle.plain_model.specs.Places.{Rest, WalkWhy, content_at, lowest_free, take_place, with_owner, without_owner, disposed, changed, no_current, rest_if_unchanged, current_of}
use Rattle.enumerators.specs.PlainPools.{plain_pool}
use Rattle.enumerators.specs.declared.walk.Walk.{Walk}
use Rattle.enumerators.specs.declared.walk.WalkFault.{WalkFault}
use Rattle.enumerators.specs.declared.walk.WalkFault.TheVariants.{Disposed, Changed, NoCurrent, Busy, PoolFull, NoNumber}

-- each reason as a fault
abbrev pub fault_of : WalkWhy → WalkFault
fault_of disposed = Disposed
fault_of (changed made now) = Changed made now
fault_of no_current = NoCurrent

-- the fault, if there is one
abbrev pub fault_in : {A : Type 0} → Result A WalkWhy → Option WalkFault
fault_in (Ok x) = None
fault_in (Err why) = Some (fault_of why)

-- what a fault of a pool is to a walk
abbrev pub walk_fault : PoolFault → WalkFault
walk_fault pool.PoolFull = PoolFull
walk_fault pool.NoNumber = NoNumber
walk_fault (pool.Disposed holder) = Disposed
walk_fault (pool.Busy number) = Busy number

-- why a walk cannot start: no number is left, or no place
abbrev pub start_fault : Pool (Rest Elem) → Option WalkFault
start_fault p =
    cond (p.takings == MOST_TAKINGS) (Some NoNumber)
    (cond (is_none (lowest_free (plain_pool p).places)) (Some PoolFull)
    None)

-- the walk is of this, at the place and under the number that it took
abbrev pub IsStarted : Pool (Rest Elem) → Pool (Rest Elem) → Rest Elem → Walk → Type 0
IsStarted p q rest w =
    take_place rest (plain_pool p)
    ≡ Some (record { place = w.owner.place; number = w.owner.number; pool = plain_pool q })

module _ (p : Pool (Rest Elem)) (w : Walk) where
  -- what the walk has at its place, where the place is its own
  abbrev pub own_rest : Option (Rest Elem)
  own_rest = content_at w.owner.place w.owner.number (plain_pool p).places

  -- the same, where what is walked has not changed since the walk started
  abbrev pub unchanged_rest : ℕ → Result (Rest Elem) WalkWhy
  unchanged_rest now = rest_if_unchanged w.made now own_rest

  -- the element that the walk stands at
  abbrev pub current_elem : Result Elem WalkWhy
  current_elem = current_of own_rest

-- the pool with this at the walk's place, and with the place free
abbrev pub with_rest : Walk → Rest Elem → Pool (Rest Elem) → plain.Pool (Rest Elem)
with_rest w rest p = record (plain_pool p) {
  places = with_owner w.owner.place w.owner.number rest (plain_pool p).places;
}

abbrev pub without_rest : Walk → Pool (Rest Elem) → plain.Pool (Rest Elem)
without_rest w p = record (plain_pool p) {
  places = without_owner w.owner.place (plain_pool p).places;
}

-- nothing has changed, and f makes another one of what the walk has at its place
abbrev pub IsTurned : Pool (Rest Elem) → Pool (Rest Elem) → Walk → ℕ → (Rest Elem → Rest Elem)
    → Rest Elem → Type 0
IsTurned p q w now f rest =
    (unchanged_rest p w now ≡ Ok rest) × (plain_pool q ≡ with_rest w (f rest) p)

-- it cannot be turned, and stays as it is
abbrev pub TurnRefused : Pool (Rest Elem) → Pool (Rest Elem) → Walk → ℕ → WalkFault
    → Type 0
TurnRefused p q w now fault = (fault_in (unchanged_rest p w now) ≡ Some fault) × (q ≡ p)
