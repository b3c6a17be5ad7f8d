-- What each kind of collection has: its operations, its questions, and what it is made of.
use Rattle.std.specs.Prelude.{Bool, true, false, ◌&&◌, Option, Some, None}
use Rattle.plain_model.specs.declared.plain.Kind.{Kind}
use Rattle.plain_model.specs.declared.plain.Kind.TheVariants as kinds
use Rattle.plain_model.specs.declared.plain.Comparer.{Comparer}
use Rattle.plain_model.specs.declared.commands.PlainOp.{PlainOp}
use Rattle.plain_model.specs.declared.commands.PlainOp.TheVariants as ops
use Rattle.plain_model.specs.declared.commands.Query.{Query}
use Rattle.plain_model.specs.declared.commands.Query.TheVariants as queries
use Rattle.plain_model.specs.declared.kinds.ItemKind.{ItemKind}
use Rattle.plain_model.specs.declared.kinds.ItemKind.TheVariants as items
use Rattle.plain_model.specs.Comparers.{comparer_of, has_comparer}

-- ---- kinds

-- the kinds that a cell may have
abbrev pub is_cell_kind : Kind → Bool
is_cell_kind kinds.Array = false
is_cell_kind _ = true

-- a kind is the same whatever its comparer
abbrev pub is_alike : Kind → Kind → Bool
is_alike kinds.List kinds.List = true
is_alike kinds.Array kinds.Array = true
is_alike kinds.Stack kinds.Stack = true
is_alike kinds.Queue kinds.Queue = true
is_alike (kinds.SSet order) (kinds.SSet other) = true
is_alike (kinds.SMap order) (kinds.SMap other) = true
is_alike (kinds.Dict eq) (kinds.Dict other) = true
is_alike (kinds.HSet eq) (kinds.HSet other) = true
is_alike _ _ = false

-- a kind has this comparer, if it is one
abbrev pub has_this : Kind → Option Comparer → Bool
has_this kind None = true
has_this kind (Some comparer) = has_comparer kind comparer

-- the very kind, with its comparer
abbrev pub is_kind : Kind → Kind → Bool
is_kind kind other = is_alike kind other && has_this kind (comparer_of other)

-- what a collection of a kind is made of
abbrev pub items_of_kind : Kind → ItemKind
items_of_kind (kinds.SMap order) = items.Pairs
items_of_kind (kinds.Dict eq) = items.Pairs
items_of_kind _ = items.Elements

-- what an operation that takes values is to be given
abbrev pub items_of_op : PlainOp → ItemKind
items_of_op (ops.AddPairs src) = items.Pairs
items_of_op (ops.SetPairs src) = items.Pairs
items_of_op _ = items.Elements

-- what is given is what is needed
abbrev pub is_items : ItemKind → ItemKind → Bool
is_items items.Elements items.Elements = true
is_items items.Pairs items.Pairs = true
is_items _ _ = false

-- ---- operations

abbrev pub list_takes : PlainOp → Bool
list_takes (ops.Add v) = true
list_takes (ops.AddRange src) = true
list_takes (ops.Insert i v) = true
list_takes (ops.InsertRange i src) = true
list_takes (ops.RemoveAt i) = true
list_takes (ops.RemoveRange i k) = true
list_takes (ops.Remove v) = true
list_takes (ops.RemoveAll test) = true
list_takes (ops.Replace u v) = true
list_takes (ops.SetItem i v) = true
list_takes (ops.GetRange i k) = true
list_takes ops.Reverse = true
list_takes (ops.Sort order) = true
list_takes ops.Clear = true
list_takes _ = false

abbrev pub array_takes : PlainOp → Bool
array_takes (ops.Add v) = true
array_takes (ops.AddRange src) = true
array_takes (ops.Insert i v) = true
array_takes (ops.RemoveAt i) = true
array_takes (ops.Remove v) = true
array_takes (ops.Replace u v) = true
array_takes (ops.SetItem i v) = true
array_takes ops.Clear = true
array_takes _ = false

abbrev pub stack_takes : PlainOp → Bool
stack_takes (ops.Push v) = true
stack_takes ops.Pop = true
stack_takes ops.Clear = true
stack_takes _ = false

abbrev pub queue_takes : PlainOp → Bool
queue_takes (ops.Enqueue v) = true
queue_takes ops.Dequeue = true
queue_takes ops.Clear = true
queue_takes _ = false

-- sorted sets and hash sets
abbrev pub set_takes : PlainOp → Bool
set_takes (ops.Add v) = true
set_takes (ops.Remove v) = true
set_takes (ops.Union src) = true
set_takes (ops.Intersect src) = true
set_takes (ops.Except src) = true
set_takes (ops.SymExcept src) = true
set_takes ops.Clear = true
set_takes _ = false

-- sorted maps and dictionaries
abbrev pub map_takes : PlainOp → Bool
map_takes (ops.AddPair k v) = true
map_takes (ops.AddPairs src) = true
map_takes (ops.SetPair k v) = true
map_takes (ops.SetPairs src) = true
map_takes (ops.RemoveKey k) = true
map_takes (ops.RemoveKeys src) = true
map_takes ops.Clear = true
map_takes _ = false

-- collections of the kind have the operation
abbrev pub takes : Kind → PlainOp → Bool
takes kinds.List op = list_takes op
takes kinds.Array op = array_takes op
takes kinds.Stack op = stack_takes op
takes kinds.Queue op = queue_takes op
takes (kinds.SSet order) op = set_takes op
takes (kinds.SMap order) op = map_takes op
takes (kinds.Dict eq) op = map_takes op
takes (kinds.HSet eq) op = set_takes op

-- ---- builders and walks

-- the kinds that have a builder
abbrev pub has_builder : Kind → Bool
has_builder kinds.Stack = false
has_builder kinds.Queue = false
has_builder _ = true

abbrev pub list_builder_takes : PlainOp → Bool
list_builder_takes (ops.GetRange i k) = false
list_builder_takes op = list_takes op

abbrev pub array_builder_takes : PlainOp → Bool
array_builder_takes (ops.Add v) = true
array_builder_takes (ops.AddRange src) = true
array_builder_takes (ops.Insert i v) = true
array_builder_takes (ops.RemoveAt i) = true
array_builder_takes (ops.SetItem i v) = true
array_builder_takes ops.Clear = true
array_builder_takes _ = false

-- builders of the kind have the operation
abbrev pub builder_takes : Kind → PlainOp → Bool
builder_takes kinds.List op = list_builder_takes op
builder_takes kinds.Array op = array_builder_takes op
builder_takes kinds.Stack op = false
builder_takes kinds.Queue op = false
builder_takes kind op = takes kind op

-- the kinds that a walk goes along
abbrev pub is_walked : Kind → Bool
is_walked kinds.Array = false
is_walked kinds.Stack = false
is_walked kinds.Queue = false
is_walked _ = true

-- ---- questions

abbrev pub list_answers : Query → Bool
list_answers queries.Count = true
list_answers (queries.Get i) = true
list_answers (queries.IndexOf v) = true
list_answers (queries.LastIndexOf v) = true
list_answers (queries.Search order v) = true
list_answers (queries.Contains v) = true
list_answers _ = false

abbrev pub array_answers : Query → Bool
array_answers queries.Count = true
array_answers (queries.Get i) = true
array_answers (queries.IndexOf v) = true
array_answers (queries.LastIndexOf v) = true
array_answers (queries.Contains v) = true
array_answers _ = false

-- stacks and queues
abbrev pub end_answers : Query → Bool
end_answers queries.Count = true
end_answers queries.Peek = true
end_answers _ = false

abbrev pub hash_set_answers : Query → Bool
hash_set_answers queries.Count = true
hash_set_answers (queries.Contains v) = true
hash_set_answers (queries.Actual v) = true
hash_set_answers (queries.Subset src) = true
hash_set_answers (queries.Superset src) = true
hash_set_answers (queries.ProperSubset src) = true
hash_set_answers (queries.ProperSuperset src) = true
hash_set_answers (queries.Overlaps src) = true
hash_set_answers (queries.SetEquals src) = true
hash_set_answers _ = false

-- sorted sets answer what hash sets do, and questions of places and ends
abbrev pub sorted_set_answers : Query → Bool
sorted_set_answers (queries.Get i) = true
sorted_set_answers (queries.IndexOf v) = true
sorted_set_answers queries.Min = true
sorted_set_answers queries.Max = true
sorted_set_answers query = hash_set_answers query

-- sorted maps and dictionaries
abbrev pub map_answers : Query → Bool
map_answers queries.Count = true
map_answers (queries.Lookup k) = true
map_answers (queries.KeyOf k) = true
map_answers (queries.HasValue v) = true
map_answers queries.Keys = true
map_answers queries.Values = true
map_answers _ = false

-- collections of the kind answer the question
abbrev pub answers : Kind → Query → Bool
answers kinds.List query = list_answers query
answers kinds.Array query = array_answers query
answers kinds.Stack query = end_answers query
answers kinds.Queue query = end_answers query
answers (kinds.SSet order) query = sorted_set_answers query
answers (kinds.SMap order) query = map_answers query
answers (kinds.Dict eq) query = map_answers query
answers (kinds.HSet eq) query = hash_set_answers query
