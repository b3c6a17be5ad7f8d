-- Which calls may be made on the cells of a run.
use Rattle.std.specs.Prelude.{◌≡◌, ℕ, List, Some, None, slice_get, true}
use Rattle.plain_model.specs.declared.plain.Kind.{Kind}
use Rattle.plain_model.specs.Cell.{is_map}
use Rattle.plain_model.specs.History.{probe_of}
use Rattle.plain_model.specs.Plain.{shape_of}
use Rattle.cell_calls.specs.declared.call.CellCall.{CellCall}
use Rattle.cell_calls.specs.Calls.{Suits, plain_call}

-- a call that suits the kind of the cell at a place, and in which no factory runs
pub record MayCall (kinds : List Kind) (place : ℕ) (call : CellCall) : Type 0 where
  pub kind : Kind
  pub at : slice_get kinds place ≡ Some kind
  pub suits : Suits call kind
  pub probe : probe_of (plain_call call) ≡ None

-- the cell at a place has keys
pub record HasKeys (kinds : List Kind) (place : ℕ) : Type 0 where
  pub kind : Kind
  pub at : slice_get kinds place ≡ Some kind
  pub map : is_map (shape_of kind) ≡ true
