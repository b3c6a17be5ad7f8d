-- A pool as the plain model sees it.
use Rattle.std.specs.Prelude.{map, Option, Some, None}
use Rattle.stack_pool.specs.declared.place.Place.{Place}
use Rattle.stack_pool.specs.declared.place.Place.TheVariants as place
use Rattle.stack_pool.specs.Pools as pools
use Rattle.plain_model.specs.Places.{Owned, Pool}

module _ {S : Type 0} where
  abbrev pub plain_place : Place S → Option (Owned S)
  plain_place place.Free = None
  plain_place (place.Owned number content) = Some (record { number = number; content = content })

  abbrev pub plain_pool : pools.Pool S → Pool S
  plain_pool p = record { places = map plain_place p.places; takings = p.takings }
