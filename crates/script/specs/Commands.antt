-- What a command needs of its names, and what it binds.
use Rattle.std.specs.Prelude.{List, Bool, true, false, Option, Some, None, Result, Ok, Err}
use Rattle.plain_model.specs.declared.plain.Kind.{Kind}
use Rattle.plain_model.specs.declared.plain.Kind.TheVariants as kinds
use Rattle.plain_model.specs.declared.kinds.ItemKind.TheVariants.{Elements, Pairs}
use Rattle.plain_model.specs.declared.commands.Query.{Query}
use Rattle.plain_model.specs.declared.commands.Command.{Command}
use Rattle.plain_model.specs.declared.commands.Command.TheVariants as commands
use Rattle.plain_model.specs.declared.report.CellDecl.{CellDecl}
use Rattle.plain_model.specs.declared.names.Class.{Class}
use Rattle.plain_model.specs.declared.names.Class.TheVariants as classes
use Rattle.plain_model.specs.Comparers.{with_comparer}
use Rattle.plain_model.specs.Kinds.{is_kind, items_of_kind, items_of_op, takes, answers}
use Rattle.plain_model.specs.Names.{Name, Bindings, get, is_alike_class}
use Rattle.script_line.specs.declared.codes.Code.{Code}
use Rattle.script_line.specs.declared.codes.Code.TheVariants as codes
use Rattle.script_line.specs.Codes.{◌>>=◌, ◌⊗◌, some_or}
use Rattle.script.specs.declared.commands.Called.{Called}
use Rattle.script.specs.declared.commands.Called.TheVariants as called
use Rattle.collections.specs.Frozen.{frozen_answers}
use Rattle.script.specs.Symbols.{Binding, kind_of_cell, class_of, collection_kind_of, contents_kind_of, source_fits}

-- what a command binds, where it goes with the kinds
abbrev pub if_fits : Bool → Option Binding → Result (Option Binding) Code
if_fits true bound = Ok bound
if_fits false bound = Err codes.Kind

abbrev pub collection : Name → Kind → Option Binding
collection x kind = Some (x, classes.Collection kind)

abbrev pub frozen : Name → Kind → Option Binding
frozen x kind = Some (x, classes.Frozen kind)

-- ---- questions

-- what a name is bound to answers the question: a builder does as a collection of its kind
abbrev pub class_answers : Class → Query → Bool
class_answers (classes.Collection kind) query = answers kind query
class_answers (classes.Builder kind) query = answers kind query
class_answers (classes.Frozen kind) query = frozen_answers kind query
class_answers classes.Walk query = false

-- ---- calls that cells of one kind alone have

-- with a key on a dictionary, and on a stack and a queue
abbrev pub is_called : Called → Kind → Bool
is_called called.Dict (kinds.Dict eq) = true
is_called called.Stack kinds.Stack = true
is_called called.Queue kinds.Queue = true
is_called _ _ = false

-- a call on a cell, which binds nothing
abbrev pub call_binding : List CellDecl → Called → Name → Result (Option Binding) Code
call_binding cells needed cell = kind_of_cell cells cell >>= λ k. if_fits (is_called needed k) None

-- ---- commands

-- A row for each command: its names are known and of the class that it needs, what it does goes with their kinds,
-- and it binds this. Else the least code that applies. The commands without a row are said by no line today.
unfoldable pub binding : List CellDecl → Bindings Class → Command → Result (Option Binding) Code
binding cells names (commands.Update cell op) = kind_of_cell cells cell >>= λ k. if_fits (takes k op) None
binding cells names (commands.Read cell x) = kind_of_cell cells cell >>= λ k. Ok (collection x k)
binding cells names (commands.Publish cell x) =
    (kind_of_cell cells cell ⊗ collection_kind_of names x) >>= λ (k, l). if_fits (is_kind k l) None
binding cells names (commands.GetOrAdd cell k v) = call_binding cells called.Dict cell
binding cells names (commands.AddOrUpdate cell k v t) = call_binding cells called.Dict cell
binding cells names (commands.TryAdd cell k v) = call_binding cells called.Dict cell
binding cells names (commands.TryUpdate cell k v c) = call_binding cells called.Dict cell
binding cells names (commands.TryRemove cell k) = call_binding cells called.Dict cell
binding cells names (commands.Push cell v) = call_binding cells called.Stack cell
binding cells names (commands.TryPop cell) = call_binding cells called.Stack cell
binding cells names (commands.Enqueue cell v) = call_binding cells called.Queue cell
binding cells names (commands.TryDequeue cell) = call_binding cells called.Queue cell
binding cells names (commands.AddOrUpdateMade cell k make t) = call_binding cells called.Dict cell
binding cells names (commands.New x kind src from) =
    source_fits names (items_of_kind kind) from >>= λ u. Ok (collection x kind)
binding cells names (commands.Let y x op from) =
    (collection_kind_of names x ⊗ source_fits names (items_of_op op) from) >>= λ (k, u). if_fits (takes k op) (collection y k)
binding cells names (commands.Rekey y x comparer) =
    collection_kind_of names x >>= λ k. some_or codes.Kind (with_comparer k comparer) >>= λ l. Ok (collection y l)
binding cells names (commands.Ask x query from) =
    (class_of names x ⊗ source_fits names Elements from) >>= λ (c, u). if_fits (class_answers c query) None
binding cells names (commands.Show x) = contents_kind_of names x >>= λ k. Ok None
binding cells names (commands.FrozenSet x eq src from) =
    source_fits names Elements from >>= λ u. Ok (frozen x (kinds.HSet eq))
binding cells names (commands.FrozenMap x eq src from) =
    source_fits names Pairs from >>= λ u. Ok (frozen x (kinds.Dict eq))
binding cells names _ = Err codes.Name

-- a name that is bound again keeps its class and its kind, whatever the comparer
abbrev pub keeps_class : Option Class → Class → Bool
keeps_class None class = true
keeps_class (Some old) class = is_alike_class class old

abbrev pub rebinds : Bindings Class → Option Binding → Result (Option Binding) Code
rebinds names None = Ok None
rebinds names (Some b) = if_fits (keeps_class (get names b.0) b.1) (Some b)

-- what a command binds, or the least of the codes of names and of kinds
unfoldable pub check : List CellDecl → Bindings Class → Command → Result (Option Binding) Code
check cells names c = binding cells names c >>= rebinds names
