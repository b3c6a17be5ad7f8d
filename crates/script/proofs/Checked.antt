-- What a check that is passed says of a command's names, and what the command binds.
use Rattle.std.proofs.Common.{◌≡◌, Bool, true, false, List, Option, Some, None, Ok, refl, ap, sym, ◌∙◌}
use Rattle.imm_base.specs.declared.comparers.ValEq.{ValEq}
use Rattle.plain_model.specs.declared.plain.Kind.{Kind}
use Rattle.plain_model.specs.declared.plain.Kind.TheVariants as kinds
use Rattle.plain_model.specs.declared.plain.Comparer.{Comparer}
use Rattle.plain_model.specs.declared.plain.Values.{Values}
use Rattle.plain_model.specs.declared.kinds.ItemKind.{ItemKind}
use Rattle.plain_model.specs.declared.kinds.ItemKind.TheVariants.{Elements, Pairs}
use Rattle.plain_model.specs.declared.commands.PlainOp.{PlainOp}
use Rattle.plain_model.specs.declared.commands.Query.{Query}
use Rattle.plain_model.specs.declared.commands.Command.{Command}
use Rattle.plain_model.specs.declared.commands.Command.TheVariants as commands
use Rattle.plain_model.specs.declared.report.CellDecl.{CellDecl}
use Rattle.plain_model.specs.declared.names.Class.{Class}
use Rattle.plain_model.specs.declared.names.Class.TheVariants as classes
use Rattle.plain_model.specs.Comparers.{with_comparer}
use Rattle.plain_model.specs.Kinds.{is_kind, items_of_kind, items_of_op, is_items, takes}
use Rattle.plain_model.specs.Names.{Name, Bindings, get, collection_kind, contents_kind}
use Rattle.script_line.specs.declared.codes.Code.{Code}
use Rattle.script_line.specs.declared.codes.Code.TheVariants as codes
use Rattle.script_line.specs.Codes.{◌>>=◌, ◌⊗◌, some_or}
use Rattle.script_line.proofs.Judgements.{bind_ok, both_ok}
use Rattle.script.specs.declared.commands.Called.{Called}
use Rattle.script.specs.declared.commands.Called.TheVariants as called
use Rattle.script.specs.Symbols.{Binding, cell_kind, kind_of_cell, class_of, collection_kind_of, contents_kind_of, require, source_fits}
use Rattle.script.specs.Commands.{if_fits, is_called, call_binding, collection, frozen, class_answers, binding, keeps_class, rebinds, check}
use Rattle.script.proofs.Cells.{required}

-- ---- names

pub some_or_ok : {A : Type 0} (c : Code) (o : Option A) (a : A) → some_or c o ≡ Ok a → o ≡ Some a
some_or_ok c None a e = absurd cc
some_or_ok c (Some b) a e = let same : b ≡ a = cc in ap (λ x. Some x) same

pub cell_found : (cells : List CellDecl) (name : Name) (k : Kind) → kind_of_cell cells name ≡ Ok k → cell_kind cells name ≡ Some k
cell_found cells name k e = some_or_ok codes.Name (cell_kind cells name) k e

is_collection : (c : Class) (k : Kind) → collection_kind c ≡ Some k → c ≡ classes.Collection k
is_collection (classes.Collection l) k e = let same : l ≡ k = cc in ap classes.Collection same
is_collection _ k e = absurd cc

-- the name is bound to a collection of this kind
pub collection_found : (names : Bindings Class) (x : Name) (k : Kind) → collection_kind_of names x ≡ Ok k → get names x ≡ Some (classes.Collection k)
collection_found names x k e =
    let b = bind_ok (class_of names x) (λ c. some_or codes.Kind (collection_kind c)) k e in
    some_or_ok codes.Name (get names x) b.0 b.1 ∙ ap (λ (c : Class). Some c) (is_collection b.0 k (some_or_ok codes.Kind (collection_kind b.0) k b.2))

-- what a name is bound to has elements of this kind
pub record HasContents (names : Bindings Class) (x : Name) (k : Kind) : Type 0 where
  pub class : Class
  pub is : get names x ≡ Some class
  pub kind : contents_kind class ≡ Some k

pub contents_found : (names : Bindings Class) (x : Name) (k : Kind) → contents_kind_of names x ≡ Ok k → HasContents names x k
contents_found names x k e =
    let b = bind_ok (class_of names x) (λ c. some_or codes.Kind (contents_kind c)) k e in
    record { class = b.0; is = some_or_ok codes.Name (get names x) b.0 b.1; kind = some_or_ok codes.Kind (contents_kind b.0) k b.2 }

-- a name that gives a command's values gives what is needed
pub record GivesItems (names : Bindings Class) (needed : ItemKind) (x : Name) : Type 0 where
  pub kind : Kind
  pub has : HasContents names x kind
  pub items : is_items needed (items_of_kind kind) ≡ true

pub source_found : (names : Bindings Class) (needed : ItemKind) (x : Name) (u : Unit {0}) → source_fits names needed (Some x) ≡ Ok u → GivesItems names needed x
source_found names needed x u e =
    let b = bind_ok (contents_kind_of names x) (λ k. require codes.Kind (is_items needed (items_of_kind k))) u e in
    record { kind = b.0; has = contents_found names x b.0 b.1; items = required codes.Kind (is_items needed (items_of_kind b.0)) u b.2 }

-- the values of a command are its own, or those of a name that gives what is needed
abbrev pub HasSource : Bindings Class → ItemKind → Option Name → Type 0
HasSource names needed None = Unit {0}
HasSource names needed (Some x) = GivesItems names needed x

pub has_source : (names : Bindings Class) (needed : ItemKind) (from : Option Name) (u : Unit {0}) → source_fits names needed from ≡ Ok u → HasSource names needed from
has_source names needed None u e = tt
has_source names needed (Some x) u e = source_found names needed x u e

-- ---- checks

fits_ok : (t : Bool) (bound b : Option Binding) → if_fits t bound ≡ Ok b → (t ≡ true) × (b ≡ bound)
fits_ok true bound b e = let same : b ≡ bound = cc in (refl, same)
fits_ok false bound b e = absurd cc

rebinds_same : (names : Bindings Class) (bound b : Option Binding) → rebinds names bound ≡ Ok b → bound ≡ b
rebinds_same names None b e = cc
rebinds_same names (Some n) b e = sym (fits_ok (keeps_class (get names n.0) n.1) (Some n) b e).1

pub check_binding : (cells : List CellDecl) (names : Bindings Class) (c : Command) (b : Option Binding) → check cells names c ≡ Ok b → binding cells names c ≡ Ok b
unfolding check
check_binding cells names c b e =
    let r = bind_ok (binding cells names c) (rebinds names) b e in
    r.1 ∙ ap (λ (o : Option Binding). Ok o) (rebinds_same names r.0 b r.2)

-- ---- a row for each command

pub update_checked : (cells : List CellDecl) (names : Bindings Class) (cell : Name) (op : PlainOp) (b : Option Binding) → binding cells names (commands.Update cell op) ≡ Ok b
    → (k : Kind) × (cell_kind cells cell ≡ Some k) × (takes k op ≡ true) × (b ≡ None)
unfolding binding
update_checked cells names cell op b e =
    let r = bind_ok (kind_of_cell cells cell) (λ k. if_fits (takes k op) None) b e in
    let f = fits_ok (takes r.0 op) None b r.2 in
    (r.0, cell_found cells cell r.0 r.1, f.0, f.1)

pub read_checked : (cells : List CellDecl) (names : Bindings Class) (cell x : Name) (b : Option Binding) → binding cells names (commands.Read cell x) ≡ Ok b
    → (k : Kind) × (cell_kind cells cell ≡ Some k) × (b ≡ collection x k)
unfolding binding
read_checked cells names cell x b e =
    let r = bind_ok (kind_of_cell cells cell) (λ k. Ok (collection x k)) b e in
    let same : b ≡ collection x r.0 = cc (r.2) in
    (r.0, cell_found cells cell r.0 r.1, same)

pub publish_checked : (cells : List CellDecl) (names : Bindings Class) (cell x : Name) (b : Option Binding) → binding cells names (commands.Publish cell x) ≡ Ok b
    → (k : Kind) × (l : Kind) × (cell_kind cells cell ≡ Some k) × (get names x ≡ Some (classes.Collection l)) × (is_kind k l ≡ true) × (b ≡ None)
unfolding binding
publish_checked cells names cell x b e =
    let r = bind_ok (kind_of_cell cells cell ⊗ collection_kind_of names x) (λ p. if_fits (is_kind p.0 p.1) None) b e in
    let p = both_ok (kind_of_cell cells cell) (collection_kind_of names x) r.0 r.1 in
    let f = fits_ok (is_kind r.0.0 r.0.1) None b r.2 in
    (r.0.0, r.0.1, cell_found cells cell r.0.0 p.0, collection_found names x r.0.1 p.1, f.0, f.1)

-- a call that cells of one kind alone have
call_checked : (cells : List CellDecl) (needed : Called) (cell : Name) (b : Option Binding) → call_binding cells needed cell ≡ Ok b → (k : Kind) × (cell_kind cells cell ≡ Some k) × (b ≡ None)
call_checked cells needed cell b e =
    let r = bind_ok (kind_of_cell cells cell) (λ k. if_fits (is_called needed k) None) b e in
    (r.0, cell_found cells cell r.0 r.1, (fits_ok (is_called needed r.0) None b r.2).1)

pub dictionary_checked : (cells : List CellDecl) (cell : Name) (b : Option Binding) → call_binding cells called.Dict cell ≡ Ok b → (k : Kind) × (cell_kind cells cell ≡ Some k) × (b ≡ None)
dictionary_checked cells cell b e = call_checked cells called.Dict cell b e

pub stack_checked : (cells : List CellDecl) (cell : Name) (b : Option Binding) → call_binding cells called.Stack cell ≡ Ok b → (k : Kind) × (cell_kind cells cell ≡ Some k) × (b ≡ None)
stack_checked cells cell b e = call_checked cells called.Stack cell b e

pub queue_checked : (cells : List CellDecl) (cell : Name) (b : Option Binding) → call_binding cells called.Queue cell ≡ Ok b → (k : Kind) × (cell_kind cells cell ≡ Some k) × (b ≡ None)
queue_checked cells cell b e = call_checked cells called.Queue cell b e

pub new_checked : (cells : List CellDecl) (names : Bindings Class) (x : Name) (kind : Kind) (src : Values) (from : Option Name) (b : Option Binding)
    → binding cells names (commands.New x kind src from) ≡ Ok b → HasSource names (items_of_kind kind) from × (b ≡ collection x kind)
unfolding binding
new_checked cells names x kind src from b e =
    let r = bind_ok (source_fits names (items_of_kind kind) from) (λ u. Ok (collection x kind)) b e in
    let same : b ≡ collection x kind = cc (r.2) in
    (has_source names (items_of_kind kind) from r.0 r.1, same)

pub let_checked : (cells : List CellDecl) (names : Bindings Class) (y x : Name) (op : PlainOp) (from : Option Name) (b : Option Binding)
    → binding cells names (commands.Let y x op from) ≡ Ok b
    → (k : Kind) × (get names x ≡ Some (classes.Collection k)) × (takes k op ≡ true) × HasSource names (items_of_op op) from × (b ≡ collection y k)
unfolding binding
let_checked cells names y x op from b e =
    let r = bind_ok (collection_kind_of names x ⊗ source_fits names (items_of_op op) from) (λ p. if_fits (takes p.0 op) (collection y p.0)) b e in
    let p = both_ok (collection_kind_of names x) (source_fits names (items_of_op op) from) r.0 r.1 in
    let f = fits_ok (takes r.0.0 op) (collection y r.0.0) b r.2 in
    (r.0.0, collection_found names x r.0.0 p.0, f.0, has_source names (items_of_op op) from r.0.1 p.1, f.1)

pub rekey_checked : (cells : List CellDecl) (names : Bindings Class) (y x : Name) (comparer : Comparer) (b : Option Binding)
    → binding cells names (commands.Rekey y x comparer) ≡ Ok b
    → (k : Kind) × (l : Kind) × (get names x ≡ Some (classes.Collection k)) × (with_comparer k comparer ≡ Some l) × (b ≡ collection y l)
unfolding binding
rekey_checked cells names y x comparer b e =
    let r = bind_ok (collection_kind_of names x) (λ k. some_or codes.Kind (with_comparer k comparer) >>= λ l. Ok (collection y l)) b e in
    let s = bind_ok (some_or codes.Kind (with_comparer r.0 comparer)) (λ l. Ok (collection y l)) b r.2 in
    let same : b ≡ collection y s.0 = cc (s.2) in
    (r.0, s.0, collection_found names x r.0 r.1, some_or_ok codes.Kind (with_comparer r.0 comparer) s.0 s.1, same)

pub ask_checked : (cells : List CellDecl) (names : Bindings Class) (x : Name) (query : Query) (from : Option Name) (b : Option Binding)
    → binding cells names (commands.Ask x query from) ≡ Ok b
    → (c : Class) × (get names x ≡ Some c) × (class_answers c query ≡ true) × HasSource names Elements from × (b ≡ None)
unfolding binding
ask_checked cells names x query from b e =
    let r = bind_ok (class_of names x ⊗ source_fits names Elements from) (λ p. if_fits (class_answers p.0 query) None) b e in
    let p = both_ok (class_of names x) (source_fits names Elements from) r.0 r.1 in
    let f = fits_ok (class_answers r.0.0 query) None b r.2 in
    (r.0.0, some_or_ok codes.Name (get names x) r.0.0 p.0, f.0, has_source names Elements from r.0.1 p.1, f.1)

pub show_checked : (cells : List CellDecl) (names : Bindings Class) (x : Name) (b : Option Binding) → binding cells names (commands.Show x) ≡ Ok b
    → (k : Kind) × HasContents names x k × (b ≡ None)
unfolding binding
show_checked cells names x b e =
    let r = bind_ok (contents_kind_of names x) (λ k. Ok None) b e in
    let same : b ≡ None = cc (r.2) in
    (r.0, contents_found names x r.0 r.1, same)

pub frozen_set_checked : (cells : List CellDecl) (names : Bindings Class) (x : Name) (eq : ValEq) (src : Values) (from : Option Name) (b : Option Binding)
    → binding cells names (commands.FrozenSet x eq src from) ≡ Ok b → HasSource names Elements from × (b ≡ frozen x (kinds.HSet eq))
unfolding binding
frozen_set_checked cells names x eq src from b e =
    let r = bind_ok (source_fits names Elements from) (λ u. Ok (frozen x (kinds.HSet eq))) b e in
    let same : b ≡ frozen x (kinds.HSet eq) = cc (r.2) in
    (has_source names Elements from r.0 r.1, same)

pub frozen_map_checked : (cells : List CellDecl) (names : Bindings Class) (x : Name) (eq : ValEq) (src : Values) (from : Option Name) (b : Option Binding)
    → binding cells names (commands.FrozenMap x eq src from) ≡ Ok b → HasSource names Pairs from × (b ≡ frozen x (kinds.Dict eq))
unfolding binding
frozen_map_checked cells names x eq src from b e =
    let r = bind_ok (source_fits names Pairs from) (λ u. Ok (frozen x (kinds.Dict eq))) b e in
    let same : b ≡ frozen x (kinds.Dict eq) = cc (r.2) in
    (has_source names Pairs from r.0 r.1, same)
