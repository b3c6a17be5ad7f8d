-- What is still to come of a series, from a place on.
use Rattle.std.specs.Prelude.{◌≡◌, ℕ, ◌<◌, List, length, drop, slice_get, Some}
use Rattle.hash_bucket.specs.Bucketed.{Bucketed}
use Rattle.hash_bucket.specs.Buckets.{elements}
use Rattle.enumerators.specs.declared.series.Place.{Place}
use Rattle.enumerators.specs.declared.series.Series.{Series}
use Rattle.enumerators.specs.declared.series.Series.TheVariants.{List as InList, Buckets}

-- the place before the first element
abbrev pub first_place : Place
first_place = record { node = 0; item = 0 }

module _ {T : Type 0} where
  -- no bucket is empty
  abbrev pub EachFilled : List (Bucketed T) → Type 0
  EachFilled bs = (i : ℕ) (b : Bucketed T) → slice_get bs i ≡ Some b → 0 < length b.items

  -- the place is before an item of a bucket, or behind all buckets
  abbrev pub IsInside : List (Bucketed T) → Place → Type 0
  IsInside bs p = (b : Bucketed T) → slice_get bs p.node ≡ Some b → p.item < length b.items

  -- the items of the buckets from the place on
  abbrev pub bucket_rest : List (Bucketed T) → Place → List T
  bucket_rest bs p = drop p.item (elements (drop p.node bs))

  -- the elements from the place on
  abbrev pub series_rest : Series T → Place → List T
  series_rest (InList t) p = drop p.node t.items
  series_rest (Buckets t) p = bucket_rest t.items p

  -- the place is one of the series
  abbrev pub IsPlace : Series T → Place → Type 0
  IsPlace (InList t) p = Unit {0}
  IsPlace (Buckets t) p = EachFilled t.items × IsInside t.items p
