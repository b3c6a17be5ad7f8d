-- What a cell ends with.
use Rattle.std.specs.Prelude.{◌≡◌, List}
use Rattle.plain_model.specs.declared.plain.Plain.{Plain}
use Rattle.version_slots.specs.declared.tokens.Front.{Front}
use Rattle.version_slots.specs.declared.view.View.{View}
use Rattle.interlocked.specs.declared.entry.Kept.{Kept}
use Rattle.interlocked.specs.Whole.{EndsWhole}

-- a cell that began with `first` ended with this value, where these are its passes
pub record EndsWith (first : Kept) (views : List (View Kept)) (last : Plain) : Type 0 where
  pub front : Front
  pub kept : Kept
  pub whole : EndsWhole first views front kept
  pub value : last ≡ kept.value
