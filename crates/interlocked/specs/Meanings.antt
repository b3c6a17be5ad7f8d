-- What the calls of each kind of cell mean.
use Rattle.imm_base.specs.declared.val.Val.{Val}
use Rattle.imm_base.specs.declared.comparers.ValEq.{ValEq}
use Rattle.imm_dictionary.specs.Mapped.{Mapped}
use Rattle.std.specs.Prelude.{List}
use Rattle.plain_model.specs.declared.plain.Kind.{Kind}
use Rattle.plain_model.specs.declared.plain.Kind.TheVariants as kinds
use Rattle.plain_model.specs.declared.plain.Plain.{Plain}
use Rattle.plain_model.specs.declared.plain.Values.{Values}
use Rattle.plain_model.specs.declared.plain.Values.TheVariants as values
use Rattle.plain_model.specs.declared.commands.PlainCall.{PlainCall}
use Rattle.plain_model.specs.declared.commands.PlainCall.TheVariants as calls
use Rattle.interlocked.specs.declared.stack.StackCall.{StackCall}
use Rattle.interlocked.specs.declared.stack.StackCall.TheVariants as stacks
use Rattle.interlocked.specs.declared.queue.QueueCall.{QueueCall}
use Rattle.interlocked.specs.declared.queue.QueueCall.TheVariants as queues
use Rattle.interlocked.specs.declared.array.ArrayValue.{ArrayValue}
use Rattle.interlocked.specs.declared.array.ArrayValue.TheVariants as arrays
use Rattle.interlocked.specs.declared.array.ArrayCall.{ArrayCall}
use Rattle.interlocked.specs.declared.array.ArrayCall.TheVariants as array_calls
use Rattle.interlocked.specs.declared.dict.DictCall.{DictCall}
use Rattle.interlocked.specs.declared.dict.DictCall.TheVariants as dicts

-- a collection of these elements
abbrev pub listed : Kind → List Val → Plain
listed kind elements = record { kind = kind; values = values.List elements }

abbrev pub stack_call : StackCall → PlainCall
stack_call (stacks.Push value) = calls.Push value
stack_call stacks.TryPop = calls.TryPop

abbrev pub queue_call : QueueCall → PlainCall
queue_call (queues.Enqueue value) = calls.Enqueue value
queue_call queues.TryDequeue = calls.TryDequeue

-- the elements of an array, or that there is none
abbrev pub array_values : ArrayValue → Values
array_values arrays.Default = values.Unset
array_values (arrays.Array elements) = values.List elements

abbrev pub array_plain : ArrayValue → Plain
array_plain array = record { kind = kinds.Array; values = array_values array }

abbrev pub array_call : ArrayCall → PlainCall
array_call (array_calls.Exchange elements) = calls.Exchange elements
array_call (array_calls.CompareExchange elements comparand) = calls.CompareExchange elements (array_values comparand)
array_call (array_calls.Initialize elements) = calls.Initialize elements

-- a dictionary, with its equality
abbrev pub dict_plain : Mapped Val Val ValEq → Plain
dict_plain map = record { kind = kinds.Dict map.eq; values = values.Pairs map.pairs }

abbrev pub dict_call : DictCall → PlainCall
dict_call (dicts.GetOrAdd key value) = calls.GetOrAdd key value
dict_call (dicts.AddOrUpdate key value transform) = calls.AddOrUpdate key value transform
dict_call (dicts.TryAdd key value) = calls.TryAdd key value
dict_call (dicts.TryUpdate key value comparison) = calls.TryUpdate key value comparison
dict_call (dicts.TryRemove key) = calls.TryRemove key
dict_call (dicts.GetOrAddMade key make probe) = calls.GetOrAddMade key make probe
dict_call (dicts.AddOrUpdateMade key make transform) = calls.AddOrUpdateMade key make transform
