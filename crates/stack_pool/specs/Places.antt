-- One place of a pool.
use Rattle.std.specs.Prelude.{ℕ, Bool, true, false, Option, Some, None}
use Rattle.stack_pool.specs.declared.place.Place.{Place}
use Rattle.stack_pool.specs.declared.place.Place.TheVariants.{Free, Owned}

module _ {S : Type 0} where
  -- the number that owns the place
  abbrev pub owner_of : Place S → Option ℕ
  owner_of Free = None
  owner_of (Owned number content) = Some number

  abbrev pub content_in : Place S → Option S
  content_in Free = None
  content_in (Owned number content) = Some content

  abbrev pub is_owned : Place S → Bool
  is_owned Free = false
  is_owned (Owned number content) = true

  -- the place with another content
  abbrev pub refilled : Place S → S → Place S
  refilled Free content = Free
  refilled (Owned number old) content = Owned number content
