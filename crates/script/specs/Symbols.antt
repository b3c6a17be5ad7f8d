-- The names that are declared and bound, and what each stands for.
use Rattle.std.specs.Prelude.{List, [], ◌∷◌, Bool, true, false, Option, Some, None, Result, Ok, Err, bytes_eq, if◌then◌else◌}
use Rattle.plain_model.specs.declared.plain.Kind.{Kind}
use Rattle.plain_model.specs.declared.kinds.ItemKind.{ItemKind}
use Rattle.plain_model.specs.declared.report.CellDecl.{CellDecl}
use Rattle.plain_model.specs.declared.names.Class.{Class}
use Rattle.plain_model.specs.Kinds.{items_of_kind, is_items}
use Rattle.plain_model.specs.Names.{Name, Bindings, get, with_name, collection_kind, contents_kind}
use Rattle.script_line.specs.declared.codes.Code.{Code}
use Rattle.script_line.specs.declared.codes.Code.TheVariants as codes
use Rattle.script_line.specs.Codes.{◌>>=◌, some_or}

-- the local name that a command binds, and what it binds it to
abbrev pub Binding : Type 0
Binding = Name × Class

-- the kind of the cell of this name, if one is declared
abbrev pub cell_kind : List CellDecl → Name → Option Kind
cell_kind [] name = None
cell_kind (cell ∷ cells) name = if bytes_eq cell.name name then Some cell.kind else cell_kind cells name

abbrev pub kind_of_cell : List CellDecl → Name → Result Kind Code
kind_of_cell cells name = some_or codes.Name (cell_kind cells name)

abbrev pub class_of : Bindings Class → Name → Result Class Code
class_of names x = some_or codes.Name (get names x)

-- the kind of the collection that the name is bound to
abbrev pub collection_kind_of : Bindings Class → Name → Result Kind Code
collection_kind_of names x = class_of names x >>= λ c. some_or codes.Kind (collection_kind c)

-- the kind of what the name is bound to, where that has elements
abbrev pub contents_kind_of : Bindings Class → Name → Result Kind Code
contents_kind_of names x = class_of names x >>= λ c. some_or codes.Kind (contents_kind c)

-- a test that is to hold, or this code
abbrev pub require : Code → Bool → Result (Unit {0}) Code
require code true = Ok tt
require code false = Err code

-- the name that gives a command's values, if one does, gives what is needed
abbrev pub source_fits : Bindings Class → ItemKind → Option Name → Result (Unit {0}) Code
source_fits names needed None = Ok tt
source_fits names needed (Some x) = contents_kind_of names x >>= λ k. require codes.Kind (is_items needed (items_of_kind k))

-- the names with this one, if there is one
abbrev pub with_bound : Bindings Class → Option Binding → Bindings Class
with_bound names None = names
with_bound names (Some b) = with_name b.0 b.1 names
