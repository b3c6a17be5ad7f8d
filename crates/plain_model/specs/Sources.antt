-- The values among the arguments of operations and questions, and when each of them can be a value.
use Rattle.std.specs.Prelude.{pos, ◌+ℤ◌, ◌^◌, Bool, true, Option, Some, None, int_le}
use Rattle.plain_model.specs.declared.plain.Values.{Values}
use Rattle.plain_model.specs.declared.plain.Values.TheVariants as values
use Rattle.plain_model.specs.declared.commands.PlainOp.{PlainOp}
use Rattle.plain_model.specs.declared.commands.PlainOp.TheVariants as ops
use Rattle.plain_model.specs.declared.commands.Query.{Query}
use Rattle.plain_model.specs.declared.commands.Query.TheVariants as queries

-- the integers of a sequence are less than 2^63
abbrev pub is_within : Values → Bool
is_within (values.Seq first n) = int_le (first +ℤ pos n) (pos (2 ^ 63))
is_within _ = true

abbrev pub are_within : Option Values → Bool
are_within None = true
are_within (Some vs) = is_within vs

-- the values among the arguments of an operation, and of a question
abbrev pub op_values : PlainOp → Option Values
op_values (ops.AddRange src) = Some src
op_values (ops.InsertRange i src) = Some src
op_values (ops.Union src) = Some src
op_values (ops.Intersect src) = Some src
op_values (ops.Except src) = Some src
op_values (ops.SymExcept src) = Some src
op_values (ops.AddPairs src) = Some src
op_values (ops.SetPairs src) = Some src
op_values (ops.RemoveKeys src) = Some src
op_values _ = None

abbrev pub query_values : Query → Option Values
query_values (queries.Subset src) = Some src
query_values (queries.Superset src) = Some src
query_values (queries.ProperSubset src) = Some src
query_values (queries.ProperSuperset src) = Some src
query_values (queries.Overlaps src) = Some src
query_values (queries.SetEquals src) = Some src
query_values _ = None

-- the operation and the question on other values, where they take values
abbrev pub op_with_values : PlainOp → Values → PlainOp
op_with_values (ops.AddRange src) vs = ops.AddRange vs
op_with_values (ops.InsertRange i src) vs = ops.InsertRange i vs
op_with_values (ops.Union src) vs = ops.Union vs
op_with_values (ops.Intersect src) vs = ops.Intersect vs
op_with_values (ops.Except src) vs = ops.Except vs
op_with_values (ops.SymExcept src) vs = ops.SymExcept vs
op_with_values (ops.AddPairs src) vs = ops.AddPairs vs
op_with_values (ops.SetPairs src) vs = ops.SetPairs vs
op_with_values (ops.RemoveKeys src) vs = ops.RemoveKeys vs
op_with_values op vs = op

abbrev pub query_with_values : Query → Values → Query
query_with_values (queries.Subset src) vs = queries.Subset vs
query_with_values (queries.Superset src) vs = queries.Superset vs
query_with_values (queries.ProperSubset src) vs = queries.ProperSubset vs
query_with_values (queries.ProperSuperset src) vs = queries.ProperSuperset vs
query_with_values (queries.Overlaps src) vs = queries.Overlaps vs
query_with_values (queries.SetEquals src) vs = queries.SetEquals vs
query_with_values query vs = query
