-- What the calls on a walk over a shared pool do. v is what the seat knew before the call, v' what
-- it knows after.
use Rattle.std.specs.Prelude.{◌≡◌, ◌≢◌, ◌⊎◌, ℕ, None}
use Rattle.stack_pool.specs.declared.fault.PoolFault.{PoolFault}
use Rattle.stack_pool.specs.declared.view.View.{View}
use Rattle.stack_pool.specs.Calls.{IsHeld, IsReleased, Refused, TakeRefused}
use Rattle.plain_model.specs.declared.plain.Elem.{Elem}
use Rattle.plain_model.specs.Places.{Rest}
use Rattle.enumerators.specs.declared.walk.Walk.{Walk}
use Rattle.enumerators.specs.declared.walk.WalkFault.{WalkFault}
use Rattle.enumerators.specs.declared.walk.WalkFault.TheVariants.{Changed, NoCurrent}
use Rattle.enumerators.specs.Walking.{walk_fault}

module _ (v v' : View (Rest Elem)) where
  -- the seat was lent what its walk has at its place, and gave `back` in its stead
  abbrev pub IsExchanged : Walk → Rest Elem → Rest Elem → Type 0
  IsExchanged w lent back =
      (u : View (Rest Elem)) × IsHeld v u w.owner lent × IsReleased u v' w.owner back

  -- the walk has this at its place, and it stays
  abbrev pub IsShown : Walk → Rest Elem → Type 0
  IsShown w rest = IsExchanged w rest rest

  -- f makes another one of it, since nothing has changed
  abbrev pub IsTurned : Walk → ℕ → (Rest Elem → Rest Elem) → Rest Elem → Type 0
  IsTurned w now f rest = (w.made ≡ now) × IsExchanged w rest (f rest)

  -- nothing is turned, since something has changed
  abbrev pub IsOutdated : Walk → ℕ → WalkFault → Type 0
  IsOutdated w now fault =
      (fault ≡ Changed w.made now) × (w.made ≢ now) × ((rest : Rest Elem) × IsShown w rest)

  -- the walk stands at no element
  abbrev pub HasNoCurrent : Walk → WalkFault → Type 0
  HasNoCurrent w fault =
      (fault ≡ NoCurrent) × ((rest : Rest Elem) × (rest.current ≡ None) × IsShown w rest)

  -- a pool of so many places refuses the taking
  abbrev pub StartRefused : ℕ → WalkFault → Type 0
  StartRefused places fault =
      (cause : PoolFault) × (fault ≡ walk_fault cause) × TakeRefused places v v' cause

  -- it does not lend what is at the walk's place, nor give it back
  abbrev pub PlaceRefused : ℕ → Walk → WalkFault → Type 0
  PlaceRefused places w fault =
      (cause : PoolFault) × (fault ≡ walk_fault cause) × Refused places v v' w.owner cause

  -- why a walk cannot be turned, and why it shows no element
  abbrev pub TurnRefused : ℕ → Walk → ℕ → WalkFault → Type 0
  TurnRefused places w now fault = PlaceRefused places w fault ⊎ IsOutdated w now fault

  abbrev pub CurrentRefused : ℕ → Walk → WalkFault → Type 0
  CurrentRefused places w fault = PlaceRefused places w fault ⊎ HasNoCurrent w fault
