-- What a call on a cell is in the plain model, and on which collections it may be made.
use Rattle.std.specs.Prelude.{◌≡◌, true}
use Rattle.plain_model.specs.declared.plain.Kind.{Kind}
use Rattle.plain_model.specs.declared.commands.PlainCall.{PlainCall}
use Rattle.plain_model.specs.declared.commands.PlainCall.TheVariants as calls
use Rattle.plain_model.specs.Sources.{are_within, op_values}
use Rattle.cell_calls.specs.declared.call.CellCall.{CellCall}
use Rattle.cell_calls.specs.declared.call.CellCall.TheVariants as cells

abbrev pub plain_call : CellCall → PlainCall
plain_call (cells.Plain call) = call
plain_call (cells.Publish q) = calls.Publish q

-- the call brings no collection and no array along, and its sequences stay within 64 bits
abbrev pub PlainSuits : PlainCall → Type 0
PlainSuits (calls.Update op) = are_within (op_values op) ≡ true
PlainSuits (calls.Publish q) = ⊥
PlainSuits (calls.Exchange xs) = ⊥
PlainSuits (calls.CompareExchange xs wanted) = ⊥
PlainSuits (calls.Initialize xs) = ⊥
PlainSuits _ = Unit {0}

-- the call may be made on collections of this kind: one that it publishes is of the kind itself
abbrev pub Suits : CellCall → Kind → Type 0
Suits (cells.Plain call) kind = PlainSuits call
Suits (cells.Publish q) kind = q.kind ≡ kind
